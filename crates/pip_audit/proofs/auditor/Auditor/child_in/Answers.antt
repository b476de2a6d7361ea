use Rattle.std.proofs.Common.{◌≡◌, ◌+◌, ◌*◌, ◌/◌, arith, inl, inr, sym, ap, ◌∙◌, subst, Some, eq-eqb, ne_eqb}
use Rattle.std.specs.Prelude.{if◌then◌else◌, option_map}
use Rattle.std.proofs.lemmas.Bool.{cases_eq}
use Rattle.pip_model.specs.Tree.{table_at}
use Rattle.pip_audit.specs.FrameWords.{word_held}
use Rattle.pip_audit.specs.declared.tables.SoughtRows.TheVariants as S
use Rattle.pip_audit.specs.Reading.{IsFirstVisitTo}
use Rattle.pip_audit.specs.Seen.{IsQuiet}
use Rattle.pip_audit.specs.Tables.{IsFirstSought, tables_in, triple_of}
use Rattle.pip_audit.proofs.Visits.{first_child, no_child, none_quiet, quiet_none}
use Rattle.pip_audit.proofs.auditor.Auditor.child_in.Goals as goal

pub returns-then-held-shadow-clause-first : goal.returns-then-held-shadow-clause-first
returns-then-held-shadow-clause-first g c = λ v lo hi.
    let m = g.M.Frames.memory c.args.mem.now in
    let a = c.args.self.now in
    let b = c.args.tables in
    let ts = tables_in m a.node.part in
    let small = c.requires.small in
    let of = c.requires.of.of (c.args.from / 1024) (omega (arith, small)) in
    let d : c.args.from / 1024 ≡ v / 1024 = omega (arith, lo, hi) in
    let held : word_held a.words.quiet b.mmu ≡ b.shadow1 + 1 =
    ap (word_held a.words.quiet) (sym c.number.ensures.same) ∙ sym c.at-held.ensures ∙ c.if-held-shadow.true
    ∙ ap (λ k. k + 1) c.number-shadow.ensures.same in
    quiet_none m ts v b (subst (λ k. option_map triple_of (table_at ts k) ≡ Some b) d
    (sym of ∙ c.requires.tables)) (c.requires.quiet b.mmu b.shadow1 held)

pub returns-in-Some-clause-first : goal.returns-in-Some-clause-first
returns-in-Some-clause-first g c =
    let m = g.M.Frames.memory c.args.mem.now in
    let ts = tables_in m c.args.self.now.node.part in
    let b = c.args.tables in
    let row = c.in-Some.row in
    let first = c.in-Some.ensures in
    let lo = first.0 in
    let hi = first.1 in
    let small = c.requires.small in
    let of = c.requires.of.of (c.args.from / 1024) (omega (arith, small)) in
    let d : c.args.from / 1024 ≡ row.at / 1024 = omega (arith, lo, hi) in
    let held = subst (λ k. option_map triple_of (table_at ts k) ≡ Some b) d (sym of ∙ c.requires.tables) in
    let end = 1024 * (c.args.from / 1024) + 1024 in
    subst (λ r. IsFirstVisitTo m ts c.args.from end (Some r)) (sym c.child_of.ensures)
    (first_child m ts c.args.from end row b first held)

pub returns-then-from-eq0-clause-first : goal.returns-then-from-eq0-clause-first
returns-then-from-eq0-clause-first g c = λ v lo hi.
    let m = g.M.Frames.memory c.args.mem.now in
    let ts = tables_in m c.args.self.now.node.part in
    no_child m ts v (subst (IsFirstSought S.Child m ts c.args.from (1024 * (c.args.from / 1024) + 1024)) c.in_default.is
    c.next_child_in.ensures v lo hi)

pub returns-else-from-eq0-clause-first : goal.returns-else-from-eq0-clause-first
returns-else-from-eq0-clause-first g c = λ v lo hi.
    let m = g.M.Frames.memory c.args.mem.now in
    let ts = tables_in m c.args.self.now.node.part in
    no_child m ts v (subst (IsFirstSought S.Child m ts c.args.from (1024 * (c.args.from / 1024) + 1024)) c.in_default.is
    c.next_child_in.ensures v lo hi)

pub returns-then-from-eq0-clause-quiet : goal.returns-then-from-eq0-clause-quiet
returns-then-from-eq0-clause-quiet g c = λ t s q.
    let m = g.M.Frames.memory c.args.mem.now in
    let a = c.args.self.now in
    let b = c.args.tables in
    let n = c.number-then-from-eq0.result in
    let shadow = c.number-shadow.result + 1 in
    let ts = tables_in m a.node.part in
    let small = c.requires.small in
    let of = c.requires.of.of (c.args.from / 1024) (omega (arith, small)) in
    let none = subst (IsFirstSought S.Child m ts c.args.from (1024 * (c.args.from / 1024) + 1024)) c.in_default.is
    c.next_child_in.ensures in
    let quiet = none_quiet m ts c.args.from b c.if-from-eq0.true (sym of ∙ c.requires.tables)
    (λ v lo hi. no_child m ts v (none v lo hi)) in
    let words = c.hold.ensures.words t in
    elim (cases_eq t n) [
      | inl e ↦
          let new : s + 1 ≡ shadow =
          sym q ∙ words ∙ ap (λ z. if z then shadow else word_held a.words.quiet t) (eq-eqb t n e) in
          let same = c.number-shadow.ensures.same in
          let is : b.shadow1 ≡ s = omega (arith, new, same) in
          subst (λ k. IsQuiet m k s)
          (sym (e ∙ c.number-then-from-eq0.ensures.same)) (subst (λ k. IsQuiet m b.mmu k) is quiet)
      | inr ne ↦ c.requires.quiet t s
          (sym (words ∙ ap (λ z. if z then shadow else word_held a.words.quiet t) (ne_eqb t n ne)) ∙ q)
    ]
