use Rattle.pip_soak.proofs.load.make_stores.Goals as goal

-- src/load.rt:96:1
pub returns-clause-worlds : goal.returns-clause-worlds
returns-clause-worlds g c = λ w stands.
    c.store-7.ensures.worlds _ (c.store-6.ensures.worlds _ (c.store-5.ensures.worlds _ (c.store-4.ensures.worlds _
    (c.store-3.ensures.worlds _ (c.store-2.ensures.worlds _ (c.store.ensures.worlds w stands))))))
