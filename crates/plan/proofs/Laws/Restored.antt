-- What well-formed items say is written as the same items.
use mathlib.Core.Path.{◌≡◌, refl, sym, ap, ◌∙◌}
use mathlib.Core.Bool.{Bool, true, false, cond, ◌&&◌, true≢false}
use Prim.Native.Nat.{ℕ, ◌-◌, ◌^◌, ◌<◌, ◌≤◌}
use native.Mathlib.Omega.{arith}
use lib.Dec.{leb, ltb, eqb}
use borrow.Author.Tests.{ltb-true, ltb-false, leb-true, leb-false, eqb-true, ne_eqb}
use Rattle.algebra.specs.Lists.{done, more}
use Rattle.algebra.proofs.Lists.Same.{and_left, and_right}
use Rattle.algebra.proofs.Domains.Keys.{upto_all}
use Rattle.plan.specs.Words.{Three, Item}
use Rattle.plan.specs.Items.{between, is_conjunct, is_key, is_aggregate, signed, term_of, test_of, conjunct_of, computation_of}
use Rattle.plan.specs.Items.{position_of, aggregate_of, term_right, is_local, is_unused, conjunct_right, computation_right, key_right, aggregate_right}
use Rattle.plan.specs.Encoding.{unsigned, test_tag}
use Rattle.plan.proofs.Laws.Header.{both, between_says, between_fails}
use Rattle.plan.proofs.Laws.Numbered.{in_range_lem}
use Rattle.plan.proofs.Laws.Written.{three, three_of, conjunct_item, computation_item, position_item, aggregate_item}
use Rattle.plan.proofs.Laws.Terms.{signed_low, signed_high}

-- the values of both terms are words
abbrev pub Narrow : Item → Type 0
Narrow x = (x.first.value < 2 ^ 32) × (x.second.value < 2 ^ 32)

-- ---- terms

-- a constant read and written again is the same word
pub constant_again : (x : ℕ) → x < 2 ^ 32 → unsigned (signed x) ≡ x
constant_again x h = go (ltb x (2 ^ 31)) refl
  where
    go : (b : Bool) → ltb x (2 ^ 31) ≡ b → unsigned (signed x) ≡ x
    go true e = ap unsigned (signed_low x (ltb-true x (2 ^ 31) e))
    go false e =
        let p : 2 ^ 32 - 1 - (2 ^ 32 - 1 - x) ≡ x = omega arith in
        ap unsigned (signed_high x (ltb-false x (2 ^ 31) e)) ∙ p

-- a used term has one of four codes
code_few : (t : Three) → term_right t ≡ true → t.code ≤ 3
unfolding term_right
code_few t e = go (leb c 3) refl
  where
    c : ℕ
    c = t.code

    go : (b : Bool) → leb c 3 ≡ b → c ≤ 3
    go true f = leb-true c 3 f
    go false f =
        let l = leb-false c 3 f in
        absurd
        (true≢false
        (sym
        (and_right (eqb t.level 0) false
        (rw (ne_eqb c 1 (λ q. omega arith), ne_eqb c 0 (λ q. omega arith), ne_eqb c 2 (λ q. omega arith), ne_eqb c 3 (λ q. omega arith)) at e))))

-- a used term
pub three_again : (t : Three) → term_right t ≡ true → t.value < 2 ^ 32 → three_of (term_of t) ≡ t
unfolding term_of term_right
three_again t e h =
    upto_all {P = Again} 4 (more local (more far (more fixed (more null done)))) t.code (omega (arith, code_few t e)) e
  where
    l : ℕ
    l = t.level

    v : ℕ
    v = t.value

    Again : ℕ → Type 0
    Again c = term_right (three c l v) ≡ true → three_of (term_of (three c l v)) ≡ three c l v

    no_level : (b : Bool) → (eqb l 0 && b) ≡ true → 0 ≡ l
    no_level b f = sym (eqb-true l 0 (and_left (eqb l 0) b f))

    local : Again 0
    local f = ap (λ (k : ℕ). three 0 k v) (no_level true f)

    far : Again 1
    far f = refl

    fixed : Again 2
    fixed f = λ i. three 2 (no_level true f i) (constant_again v h i)

    null : Again 3
    null f = λ i. three 3 (no_level (eqb v 0) f i) (sym (eqb-true v 0 (and_right (eqb l 0) (eqb v 0) f)) i)

-- a local term
local_again : (t : Three) → is_local t ≡ true → three 0 0 t.value ≡ t
local_again t e =
    let h = both _ _ e in
    let a = sym (eqb-true _ _ h.0) in
    let b = sym (eqb-true _ _ h.1) in
    λ i. three (a i) (b i) t.value

-- "An unused term is three zeros"
unused_again : (t : Three) → is_unused t ≡ true → three 0 0 0 ≡ t
unused_again t e = let h = both _ _ e in ap (three 0 0) (sym (eqb-true _ _ h.1)) ∙ local_again t h.0

-- ---- items

abbrev item : ℕ → Three → Three → Item
item tag a b = record { tag = tag; first = a; second = b }

-- the tag of a conjunct
tag_again : (tag : ℕ) → between 1 7 tag ≡ true → test_tag (test_of tag) ≡ tag
unfolding test_of
tag_again tag e =
    let h = between_says 1 7 tag e in
    in_range_lem (λ k. test_tag (test_of k) ≡ k) 1 7 (more refl (more refl (more refl (more refl (more refl (more refl (more refl done))))))) tag h.0 (omega arith)

pub conjunct_again : (x : Item) → conjunct_right x ≡ true → Narrow x → conjunct_item (conjunct_of x) ≡ x
conjunct_again x e h =
    let f = both _ _ e in
    let g = both _ _ f.1 in
    λ i. item (tag_again x.tag f.0 i) (three_again x.first g.0 h.0 i) (three_again x.second g.1 h.1 i)

pub computation_again : (x : Item) → computation_right x ≡ true → Narrow x → computation_item (computation_of x) ≡ x
unfolding computation_of
computation_again x e h =
    let f = both _ _ e in
    let t = between_says 8 10 x.tag f.0 in
    in_range_lem Again 8 3 (more copied (more added (more subtracted done))) x.tag t.0 (omega arith) f.1
  where
    a : Three
    a = x.first

    b : Three
    b = x.second

    Again : ℕ → Type 0
    Again tag = (term_right a && cond (eqb tag 8) (is_unused b) (term_right b)) ≡ true → computation_item (computation_of (item tag a b)) ≡ item tag a b

    copied : Again 8
    copied f = let g = both _ _ f in λ i. item 8 (three_again a g.0 h.0 i) (unused_again b g.1 i)

    added : Again 9
    added f = let g = both _ _ f in λ i. item 9 (three_again a g.0 h.0 i) (three_again b g.1 h.1 i)

    subtracted : Again 10
    subtracted f = let g = both _ _ f in λ i. item 10 (three_again a g.0 h.0 i) (three_again b g.1 h.1 i)

-- "Items 11, 12, 14, 15, 16 have a local first term"
pub position_again : (tag : ℕ) (x : Item) → (eqb x.tag tag && (is_local x.first && is_unused x.second)) ≡ true → position_item tag (position_of x) ≡ x
position_again tag x e =
    let f = both (eqb x.tag tag) _ e in
    let g = both _ _ f.1 in
    λ i. item (sym (eqb-true x.tag tag f.0) i) (local_again x.first g.0 i) (unused_again x.second g.1 i)

pub aggregate_again : (x : Item) → aggregate_right x ≡ true → aggregate_item (aggregate_of x) ≡ x
unfolding aggregate_of
aggregate_again x e =
    let f = both _ _ e in
    let t = between_says 13 16 x.tag f.0 in
    in_range_lem Again 13 4 (more counted (more summed (more least (more most done)))) x.tag t.0 (omega arith) f.1
  where
    a : Three
    a = x.first

    b : Three
    b = x.second

    Again : ℕ → Type 0
    Again tag = (cond (eqb tag 13) (is_unused a) (is_local a) && is_unused b) ≡ true → aggregate_item (aggregate_of (item tag a b)) ≡ item tag a b

    counted : Again 13
    counted f = let g = both _ _ f in λ i. item 13 (unused_again a g.0 i) (unused_again b g.1 i)

    summed : Again 14
    summed f = let g = both _ _ f in λ i. item 14 (local_again a g.0 i) (unused_again b g.1 i)

    least : Again 15
    least f = let g = both _ _ f in λ i. item 15 (local_again a g.0 i) (unused_again b g.1 i)

    most : Again 16
    most f = let g = both _ _ f in λ i. item 16 (local_again a g.0 i) (unused_again b g.1 i)

-- ---- the sorts are apart

pub conjunct_not_aggregate : (x : Item) → conjunct_right x ≡ true → is_aggregate x ≡ false
conjunct_not_aggregate x e = between_fails 13 16 x.tag (λ h. omega (arith, between_says 1 7 x.tag (both _ _ e).0))

pub key_not_aggregate : (x : Item) → key_right x ≡ true → is_aggregate x ≡ false
key_not_aggregate x e = between_fails 13 16 x.tag (λ h. omega (arith, eqb-true x.tag 11 (both _ _ e).0))

pub aggregate_not_conjunct : (x : Item) → aggregate_right x ≡ true → is_conjunct x ≡ false
aggregate_not_conjunct x e = between_fails 1 7 x.tag (λ h. omega (arith, between_says 13 16 x.tag (both _ _ e).0))

pub aggregate_not_key : (x : Item) → aggregate_right x ≡ true → is_key x ≡ false
aggregate_not_key x e = ne_eqb x.tag 11 (λ h. omega (arith, between_says 13 16 x.tag (both _ _ e).0))
