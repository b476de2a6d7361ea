-- What one line that could be merged does.
use Rattle.std.specs.Prelude.{◌≡◌, refl, ℕ, suc, ◌+◌, ◌<◌, ◌≤◌, ◌^◌, ◌==◌, ◌&&◌, ◌||◌, ◌⊎◌, Bool, true, false, List}
use Rattle.std.specs.Prelude.{[], ◌∷◌, ◌++◌}
use Rattle.std.specs.Prelude.{Option, Some, None, Result, Ok, Err, if◌then◌else◌, map, max, nat_lt, nat_le}
use Rattle.std.specs.List.{Contains}
use Rattle.std.specs.Cmp.Lexicographic.{slice_cmp}
use Rattle.std.specs.Ordering.{nat_cmp}
use Rattle.std.specs.Str.{bytes_eq}
use Rattle.std.specs.declared.cmp.Ordering.{Ordering}
use Rattle.std.specs.declared.cmp.Ordering.TheVariants.{Less, Equal, Greater}
use Rattle.std.proofs.Common.{inl, inr, ap, sym, subst, ◌∙◌, arith, cond}
use Rattle.std.proofs.lemmas.Bool.{eqb-false, eqb-true, leb-true}
use Rattle.std.proofs.lemmas.List.Elements.{Contains-append_left, Contains-push}
use Rattle.std.proofs.lemmas.Map.Lookups.{exact_bytes}
use Rattle.std.proofs.lemmas.Slice.Eq.{bytes_eq-Decides}
use Rattle.pip_certificates.specs.Entries.{Asks, Entry, Own, Shows, Tells, formed, has_form, begun_entry}
use Rattle.pip_certificates.specs.Entries.{number_list}
use Rattle.pip_certificates.specs.Merges.{MergedKeys, MergedParts, MergedShown, Merging, asked_after, asked_by}
use Rattle.pip_certificates.specs.Merges.{counted}
use Rattle.pip_certificates.specs.Merges.{is_alike, is_at_keys, key_after, label_order, merge_entry, merge_lines}
use Rattle.pip_certificates.specs.Merges.{on_value}
use Rattle.pip_certificates.specs.Merges.{own_after, part_after, with_asked, with_label, with_label_by}
use Rattle.pip_certificates.specs.Merges.{with_numbers, with_own}
use Rattle.pip_certificates.specs.Merges.{with_shown, with_told_part}
use Rattle.pip_certificates.specs.Sums.{label_sum, sum_and}
use Rattle.pip_certificates.specs.declared.parts.faults.MergeFault.{MergeFault}
use Rattle.pip_certificates.specs.declared.parts.faults.MergeFault.TheVariants as F
use Rattle.pip_certificates.specs.declared.parts.lines.PartNumbers.{PartNumbers}

-- ---- answers

pub on_ok : {A B : Type 0} (r : Result A MergeFault) (f : A → Result B MergeFault) (y : B) → on_value r f ≡ Ok y
    → (x : A) × ((r ≡ Ok x) × (f x ≡ Ok y))
on_ok (Ok x) f y h = (x, (refl, h))
on_ok (Err e) f y h = absurd cc

if_ok : {A : Type 0} (b : Bool) (r : Result A MergeFault) (e : MergeFault) (y : A) → cond b r (Err e) ≡ Ok y
    → (b ≡ true) × (r ≡ Ok y)
if_ok true r e y h = (refl, h)
if_ok false r e y h = absurd cc

abbrev good : {A : Type 0} → A → Result A MergeFault
good x = Ok x

ok_same : {A : Type 0} (x y : A) → good x ≡ good y → x ≡ y
ok_same x y h = cc

counted_is : (n k c : ℕ) → counted n k ≡ Ok c → c ≡ n + k
counted_is n k c h = let w = if_ok (nat_lt (n + k) (2 ^ 64)) (Ok (n + k)) F.Many c h in sym (ok_same (n + k) c w.1)

-- ---- a key of a part

pub record OwnStep (m : Merging) (k : List ℕ) (d : ℕ) (n : Merging) : Type 0 where
  pub after : (m.keys.states ≡ 0) ⊎ (slice_cmp nat_cmp m.keys.key k ≡ Less)
  pub key : n.keys.key ≡ k
  pub depth : n.keys.depth ≡ d
  pub states : n.keys.states ≡ m.keys.states + 1
  pub deepest : n.keys.deepest ≡ max m.keys.deepest d
  pub asked : n.keys.asked ≡ m.keys.asked
  pub labels : n.labels ≡ m.labels
  pub shown : n.shown ≡ m.shown
  pub parts : n.parts ≡ m.parts

order_less : (o : Ordering) (u : Unit {0}) → key_after o ≡ Ok u → o ≡ Less
order_less Less u h = refl
order_less Equal u h = absurd cc
order_less Greater u h = absurd cc

own_comes : (m : MergedKeys) (k : List ℕ) (u : Unit {0}) → own_after m k ≡ Ok u
    → (m.states ≡ 0) ⊎ (slice_cmp nat_cmp m.key k ≡ Less)
own_comes m k u h = go (m.states == 0) refl h
  where
    go : (b : Bool) → (m.states == 0) ≡ b → cond b (Ok tt) (key_after (slice_cmp nat_cmp m.key k)) ≡ Ok u
        → (m.states ≡ 0) ⊎ (slice_cmp nat_cmp m.key k ≡ Less)
    go true e h = inl (eqb-true m.states 0 e)
    go false e h = inr (order_less (slice_cmp nat_cmp m.key k) u h)

pub own_step : (m n : Merging) (k : List ℕ) (d : ℕ) → merge_entry m (Some (Own k d)) ≡ Ok n → OwnStep m k d n
own_step m n k d h =
    let time = if_ok (is_at_keys m) (on_value (with_own m.keys k d) (λ ks. Ok (record m { keys = ks }))) F.Order n h in
    let w = on_ok (with_own m.keys k d) (λ ks. Ok (record m { keys = ks })) n time.1 in
    let ks = w.0 in
    let a = on_ok (own_after m.keys k) (λ _. on_value (counted m.keys.states 1) (λ c. Ok (record {
      key = k;
      depth = d;
      states = c;
      deepest = max m.keys.deepest d;
      asked = m.keys.asked;
      latest = 0;
    }))) ks w.1.0 in
    let b = on_ok (counted m.keys.states 1) (λ c. Ok (record {
      key = k;
      depth = d;
      states = c;
      deepest = max m.keys.deepest d;
      asked = m.keys.asked;
      latest = 0;
    })) ks a.1.1 in
    let made : record {
      key = k;
      depth = d;
      states = b.0;
      deepest = max m.keys.deepest d;
      asked = m.keys.asked;
      latest = 0;
    } ≡ ks = ok_same _ ks b.1.1 in
    let all : record m { keys = ks } ≡ n = ok_same _ n w.1.1 in
    record {
      after = own_comes m.keys k a.0 a.1.0;
      key = ap (λ (x : Merging). x.keys.key) (sym all) ∙ ap (λ (x : MergedKeys). x.key) (sym made);
      depth = ap (λ (x : Merging). x.keys.depth) (sym all) ∙ ap (λ (x : MergedKeys). x.depth) (sym made);
      states = ap (λ (x : Merging). x.keys.states) (sym all) ∙ ap (λ (x : MergedKeys). x.states) (sym made)
          ∙ counted_is m.keys.states 1 b.0 b.1.0;
      deepest = ap (λ (x : Merging). x.keys.deepest) (sym all) ∙ ap (λ (x : MergedKeys). x.deepest) (sym made);
      asked = ap (λ (x : Merging). x.keys.asked) (sym all) ∙ ap (λ (x : MergedKeys). x.asked) (sym made);
      labels = ap (λ (x : Merging). x.labels) (sym all);
      shown = ap (λ (x : Merging). x.shown) (sym all);
      parts = ap (λ (x : Merging). x.parts) (sym all);
    }

-- ---- a key that is asked

pub record AskStep (m : Merging) (k : List ℕ) (d : ℕ) (n : Merging) : Type 0 where
  pub some : 0 < m.keys.states
  pub same : m.keys.key ≡ k
  pub soon : m.keys.depth ≤ d
  pub key : n.keys.key ≡ m.keys.key
  pub depth : n.keys.depth ≡ m.keys.depth
  pub states : n.keys.states ≡ m.keys.states
  pub deepest : n.keys.deepest ≡ m.keys.deepest
  pub asked : n.keys.asked ≡ m.keys.asked + 1
  pub labels : n.labels ≡ m.labels
  pub shown : n.shown ≡ m.shown
  pub parts : n.parts ≡ m.parts

-- a key that may be asked is the last one
pub record MayAsk (m : MergedKeys) (k : List ℕ) (d : ℕ) : Type 0 where
  pub some : 0 < m.states
  pub same : m.key ≡ k
  pub soon : m.depth ≤ d

may_ask : (m : MergedKeys) (k : List ℕ) (d : ℕ) (u : Unit {0}) → asked_after m k d ≡ Ok u → MayAsk m k d
may_ask m k d u h = go (m.states == 0) refl h
  where
    soon : (b c : Bool) → nat_le m.depth d ≡ c → cond b (Err F.Order) (cond c (Ok tt) (Err F.Open)) ≡ Ok u
        → m.depth ≤ d
    soon true c e h = absurd cc
    soon false true e h = leb-true m.depth d e
    soon false false e h = absurd cc

    by_order : (o : Ordering) → slice_cmp nat_cmp m.key k ≡ o → 0 < m.states → asked_by o m d ≡ Ok u → MayAsk m k d
    by_order Less e some h = absurd cc
    by_order Greater e some h = absurd cc
    by_order Equal e some h = record {
      some = some;
      same = exact_bytes m.key k e;
      soon = soon (nat_lt d m.latest) (nat_le m.depth d) refl h;
    }

    go : (b : Bool) → (m.states == 0) ≡ b → cond b (Err F.Open) (asked_by (slice_cmp nat_cmp m.key k) m d) ≡ Ok u
        → MayAsk m k d
    go true e h = absurd cc
    go false e h = by_order (slice_cmp nat_cmp m.key k) refl (grind (arith, eqb-false)) h

pub ask_step : (m n : Merging) (k : List ℕ) (d : ℕ) → merge_entry m (Some (Asks k d)) ≡ Ok n → AskStep m k d n
ask_step m n k d h =
    let time = if_ok (is_at_keys m) (on_value (with_asked m.keys k d) (λ ks. Ok (record m { keys = ks }))) F.Order n h
    in
    let w = on_ok (with_asked m.keys k d) (λ ks. Ok (record m { keys = ks })) n time.1 in
    let ks = w.0 in
    let a = on_ok (asked_after m.keys k d)
    (λ _. on_value (counted m.keys.asked 1) (λ c. Ok (record m.keys { asked = c; latest = d }))) ks w.1.0 in
    let b = on_ok (counted m.keys.asked 1) (λ c. Ok (record m.keys { asked = c; latest = d })) ks a.1.1 in
    let may = may_ask m.keys k d a.0 a.1.0 in
    let made : record m.keys { asked = b.0; latest = d } ≡ ks = ok_same _ ks b.1.1 in
    let all : record m { keys = ks } ≡ n = ok_same _ n w.1.1 in
    record {
      some = may.some;
      same = may.same;
      soon = may.soon;
      key = ap (λ (x : Merging). x.keys.key) (sym all) ∙ ap (λ (x : MergedKeys). x.key) (sym made);
      depth = ap (λ (x : Merging). x.keys.depth) (sym all) ∙ ap (λ (x : MergedKeys). x.depth) (sym made);
      states = ap (λ (x : Merging). x.keys.states) (sym all) ∙ ap (λ (x : MergedKeys). x.states) (sym made);
      deepest = ap (λ (x : Merging). x.keys.deepest) (sym all) ∙ ap (λ (x : MergedKeys). x.deepest) (sym made);
      asked = ap (λ (x : Merging). x.keys.asked) (sym all) ∙ ap (λ (x : MergedKeys). x.asked) (sym made)
          ∙ counted_is m.keys.asked 1 b.0 b.1.0;
      labels = ap (λ (x : Merging). x.labels) (sym all);
      shown = ap (λ (x : Merging). x.shown) (sym all);
      parts = ap (λ (x : Merging). x.parts) (sym all);
    }

-- ---- a label

pub record LabelStep (m : Merging) (text : List ℕ) (n : Merging) : Type 0 where
  pub has : Contains n.labels text
  pub keeps : (x : List ℕ) → Contains m.labels x → Contains n.labels x
  pub keys : n.keys ≡ m.keys
  pub count : n.shown.count ≡ m.shown.count + 1
  pub parts : n.parts ≡ m.parts

-- the last of labels with which one ties is that one
tied_last : (labels : List (List ℕ)) (text : List ℕ) → label_order labels text ≡ Equal → Contains labels text
tied_last [] text h = absurd cc
tied_last (x ∷ []) text h = (0, omega arith, exact_bytes x text h)
tied_last (x ∷ y ∷ ls) text h =
    let c = tied_last (y ∷ ls) text h in
    let low = c.1 in
    (suc c.0, omega (arith, low), c.2)

pub label_step : (m n : Merging) (text : List ℕ) → merge_entry m (Some (Shows text)) ≡ Ok n → LabelStep m text n
label_step m n text h =
    let time = if_ok (m.parts.count == 0) (on_value (with_label m.labels text) (λ ls.
    on_value (with_shown m.shown text) (λ s. Ok (record m { labels = ls; shown = s })))) F.Order n h in
    let w = on_ok (with_label m.labels text)
    (λ ls. on_value (with_shown m.shown text) (λ s. Ok (record m { labels = ls; shown = s }))) n time.1 in
    let v = on_ok (with_shown m.shown text) (λ s. Ok (record m { labels = w.0; shown = s })) n w.1.1 in
    let sum : MergedShown → ℕ = λ s. sum_and s.sum (label_sum text) in
    let c = on_ok (counted m.shown.count 1) (λ n. Ok (record { count = n; sum = sum m.shown })) v.0 v.1.0 in
    let told : record { count = c.0; sum = sum m.shown } ≡ v.0 = ok_same _ v.0 c.1.1 in
    let all : record m { labels = w.0; shown = v.0 } ≡ n = ok_same _ n v.1.1 in
    let now : w.0 ≡ n.labels = ap (λ (x : Merging). x.labels) all in
    let f = by_order (label_order m.labels text) refl w.0 w.1.0 in
    record {
      has = subst (λ ls. Contains ls text) now f.0;
      keeps = λ x c. subst (λ ls. Contains ls x) now (f.1 x c);
      keys = ap (λ (x : Merging). x.keys) (sym all);
      count = ap (λ (x : Merging). x.shown.count) (sym all) ∙ ap (λ (x : MergedShown). x.count) (sym told)
          ∙ counted_is m.shown.count 1 c.0 c.1.0;
      parts = ap (λ (x : Merging). x.parts) (sym all);
    }
  where
    by_order : (o : Ordering) → label_order m.labels text ≡ o → (ls : List (List ℕ))
        → with_label_by o m.labels text ≡ Ok ls
        → Contains ls text × ((x : List ℕ) → Contains m.labels x → Contains ls x)
    by_order Less e ls h =
        let same : m.labels ++ text ∷ [] ≡ ls = ok_same _ ls h in (
          subst (λ l. Contains l text) same (Contains-push m.labels text),
          λ x c. subst (λ l. Contains l x) same (Contains-append_left m.labels (text ∷ []) x c),
        )
    by_order Equal e ls h =
        let same : m.labels ≡ ls = ok_same _ ls h in
        (subst (λ l. Contains l text) same (tied_last m.labels text e), λ x c. subst (λ l. Contains l x) same c)
    by_order Greater e ls h = absurd cc

-- ---- a part

pub record PartStep (m : Merging) (about : List ℕ) (k : PartNumbers) (n : Merging) : Type 0 where
  pub alike : (m.parts.count ≡ 0) ⊎ (m.parts.about ≡ about)
  pub about_is : n.parts.about ≡ about
  pub count : n.parts.count ≡ m.parts.count + 1
  pub begins : n.parts.begins ≡ (m.parts.begins || k.way == 0)
  pub own : n.parts.keys ≡ m.parts.keys + k.keys
  pub asked : n.parts.asked ≡ m.parts.asked + k.asked
  pub told : n.parts.labels ≡ m.parts.labels + k.labels
  pub keys : n.keys ≡ m.keys
  pub labels : n.labels ≡ m.labels
  pub shown : n.shown ≡ m.shown

alike_is : (m : MergedParts) (about : List ℕ) → is_alike m about ≡ true → (m.count ≡ 0) ⊎ (m.about ≡ about)
alike_is m about h = go (m.count == 0) refl h
  where
    go : (b : Bool) → (m.count == 0) ≡ b → (b || bytes_eq m.about about) ≡ true → (m.count ≡ 0) ⊎ (m.about ≡ about)
    go true e h = inl (eqb-true m.count 0 e)
    go false e h = inr ((bytes_eq-Decides m.about about).0 h)

pub part_step : (m n : Merging) (about : List ℕ) (k : PartNumbers) → merge_entry m (Some (Tells about k)) ≡ Ok n
    → PartStep m about k n
part_step m n about k h =
    let w = on_ok (with_told_part m.parts about k) (λ ps. Ok (record m { parts = ps })) n h in
    let ps = w.0 in
    let made : ℕ → ℕ → ℕ → ℕ → MergedParts = λ c o a l. record {
      about = about;
      count = c;
      begins = m.parts.begins || k.way == 0;
      latest = number_list k;
      keys = o;
      asked = a;
      labels = l;
      sum = sum_and m.parts.sum k.sum;
    } in
    let a = if_ok (is_alike m.parts about) (on_value (part_after m.parts k) (λ _. with_numbers m.parts about k))
    F.Apart ps w.1.0 in
    let b = on_ok (part_after m.parts k) (λ _. with_numbers m.parts about k) ps a.1 in
    let c = on_ok (counted m.parts.count 1) (λ c. on_value (counted m.parts.keys k.keys) (λ o.
    on_value (counted m.parts.asked k.asked) (λ a. on_value (counted m.parts.labels k.labels) (λ l.
    Ok (made c o a l))))) ps b.1.1 in
    let d = on_ok (counted m.parts.keys k.keys) (λ o. on_value (counted m.parts.asked k.asked) (λ a.
    on_value (counted m.parts.labels k.labels) (λ l. Ok (made c.0 o a l)))) ps c.1.1 in
    let e = on_ok (counted m.parts.asked k.asked) (λ a.
    on_value (counted m.parts.labels k.labels) (λ l. Ok (made c.0 d.0 a l))) ps d.1.1 in
    let f = on_ok (counted m.parts.labels k.labels) (λ l. Ok (made c.0 d.0 e.0 l)) ps e.1.1 in
    let is : made c.0 d.0 e.0 f.0 ≡ ps = ok_same _ ps f.1.1 in
    let all : record m { parts = ps } ≡ n = ok_same _ n w.1.1 in
    let has : made c.0 d.0 e.0 f.0 ≡ n.parts = is ∙ ap (λ (x : Merging). x.parts) all in
    record {
      alike = alike_is m.parts about a.0;
      about_is = ap (λ (x : MergedParts). x.about) (sym has);
      count = ap (λ (x : MergedParts). x.count) (sym has) ∙ counted_is m.parts.count 1 c.0 c.1.0;
      begins = ap (λ (x : MergedParts). x.begins) (sym has);
      own = ap (λ (x : MergedParts). x.keys) (sym has) ∙ counted_is m.parts.keys k.keys d.0 d.1.0;
      asked = ap (λ (x : MergedParts). x.asked) (sym has) ∙ counted_is m.parts.asked k.asked e.0 e.1.0;
      told = ap (λ (x : MergedParts). x.labels) (sym has) ∙ counted_is m.parts.labels k.labels f.0 f.1.0;
      keys = ap (λ (x : Merging). x.keys) (sym all);
      labels = ap (λ (x : Merging). x.labels) (sym all);
      shown = ap (λ (x : Merging). x.shown) (sym all);
    }

-- ---- all lines, by what they say

abbrev pub merge_all : Merging → List (Option Entry) → Result Merging MergeFault
merge_all m [] = Ok m
merge_all m (o ∷ os) = on_value (merge_entry m o) (λ n. merge_all n os)

-- what was merged of other lines, if these were, is merged by what they say
abbrev GoesOn : List (List ℕ) → Merging → Type 0
GoesOn ls g = (n : Merging) → merge_lines n ls ≡ Ok g → merge_all n (map begun_entry ls) ≡ Ok g

goes_on : (ls : List (List ℕ)) (g : Merging) → GoesOn ls g → (r : Result Merging MergeFault)
    → on_value r (λ n. merge_lines n ls) ≡ Ok g → on_value r (λ n. merge_all n (map begun_entry ls)) ≡ Ok g
goes_on ls g more (Ok n) h = more n h
goes_on ls g more (Err e) h = absurd cc

by_form : (m : Merging) (ls : List (List ℕ)) (g : Merging) → GoesOn ls g → (e : Entry) (b : Bool)
    → on_value (merge_entry m (if b then Some e else None)) (λ n. merge_lines n ls) ≡ Ok g
    → on_value (merge_entry m (Some e)) (λ n. merge_all n (map begun_entry ls)) ≡ Ok g
by_form m ls g more e true h = goes_on ls g more (merge_entry m (Some e)) h
by_form m ls g more e false h = absurd cc

by_said : (m : Merging) (ls : List (List ℕ)) (g : Merging) → GoesOn ls g → (o : Option Entry)
    → on_value (merge_entry m (formed o)) (λ n. merge_lines n ls) ≡ Ok g
    → on_value (merge_entry m o) (λ n. merge_all n (map begun_entry ls)) ≡ Ok g
by_said m ls g more None h = absurd cc
by_said m ls g more (Some e) h = by_form m ls g more e (has_form e) h

-- lines that could be merged have their forms, so that what they say is what was merged
pub said_merge : (m : Merging) (lines : List (List ℕ)) (g : Merging) → merge_lines m lines ≡ Ok g
    → merge_all m (map begun_entry lines) ≡ Ok g
said_merge m [] g run = run
said_merge m (l ∷ ls) g run = by_said m ls g (λ n. said_merge n ls g) (begun_entry l) run
