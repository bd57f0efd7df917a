-- The items that a rule's code writes are those of the rule's node.
use mathlib.Core.Path.{◌≡◌, refl, sym, ap, ◌∙◌}
use mathlib.Core.Bool.{true, false, cond, ◌&&◌}
use mathlib.Core.List.{List, ◌∷◌, ◌++◌, map}
use Prim.Native.Nat.{ℕ}
use native.Mathlib.Omega.{arith}
use native.Mathlib.Nat.{add-zero, zero-add}
use lib.Dec.{eqb}
use borrow.Author.Tests.{le-ltb, eqb-true}
use Rattle.algebra.specs.Lists.{upto, Every, done, more}
use Rattle.algebra.specs.Plan.{Conjunct, Aggregate, count, sum, minimum, maximum, Kind, inner, semi, anti, left_outer, Node}
use Rattle.algebra.specs.Domains.{Domain, move_term, move_conjunct, move_computation, move_aggregate, shift, shift_both, span, domain_first}
use Rattle.algebra.proofs.Lists.Every.{every_of, every_map}
use Rattle.algebra.proofs.Lists.Keep.{keep_all, map_append, map_map, map_cong, map_id}
use Rattle.plan.specs.Words.{Item}
use Rattle.plan.specs.Items.{is_conjunct, term_of, test_of, conjunct_of, computation_of, position_of}
use Rattle.plan.specs.Items.{aggregate_of, conjuncts_in, conjunct_right, computation_right, is_local, is_unused, aggregate_right}
use Rattle.plan.specs.Codes.{number_of, meant_kind}
use Rattle.plan.specs.declared.kinds.JoinKind.{JoinKind}
use Rattle.plan.specs.declared.kinds.JoinKind.TheVariants.{Inner, Semi, Anti, LeftOuter}
use Rattle.plan.specs.Encoding.{term_words, unused, test_tag, conjunct_words, computation_words, position_words, aggregate_words, parts}
use Rattle.plan.proofs.Laws.Header.{both, between_says}
use Rattle.plan.proofs.Laws.Numbered.{in_range_lem}
use Rattle.plan.proofs.Laws.Written.{aggregate_item}
use Rattle.plan.proofs.Laws.Restored.{aggregate_again}
use Rattle.pages.specs.declared.page.Head.{Head}
use Rattle.pages.specs.Items.{item_words, shifted_words, moved_words}
use Rattle.pages.specs.Pages.{extra_of, kind_number}

-- ---- one item

module _ (D : Domain) (f : ℕ → ℕ) where
  conjunct_moved : (x : Item) → conjunct_right x ≡ true → moved_words D f x ≡ conjunct_words (move_conjunct D f (conjunct_of x))
  unfolding moved_words test_of
  conjunct_moved x e =
      let t = between_says 1 7 x.tag (both (is_conjunct x) _ e).0 in
      in_range_lem (λ tag. tag ∷ (a ++ cond (eqb tag 8) unused b) ≡ test_tag (test_of tag) ∷ (a ++ b)) 1 7
      (more refl (more refl (more refl (more refl (more refl (more refl (more refl done))))))) x.tag t.0 (omega arith)
    where
      a : List ℕ
      a = term_words (move_term D f (term_of x.first))

      b : List ℕ
      b = term_words (move_term D f (term_of x.second))

  pub computation_moved : (x : Item) → computation_right x ≡ true → moved_words D f x ≡ computation_words (move_computation D f (computation_of x))
  unfolding moved_words computation_of
  computation_moved x e =
      let g = both _ _ e in
      let t = between_says 8 10 x.tag g.0 in
      in_range_lem (λ tag. moved_words D f (item tag) ≡ computation_words (move_computation D f (computation_of (item tag)))) 8 3
      (more refl (more refl (more refl done))) x.tag t.0 (omega arith)
    where
      item : ℕ → Item
      item tag = record { tag = tag; first = x.first; second = x.second }

module _ (w : ℕ) where
  -- a key, an output column
  position_shifted : (tag : ℕ) → eqb tag 13 ≡ false → (x : Item) → (eqb x.tag tag && (is_local x.first && is_unused x.second)) ≡ true
      → shifted_words w x ≡ position_words tag (shift w (position_of x))
  unfolding shifted_words
  position_shifted tag f x e = rw (eqb-true x.tag tag (both (eqb x.tag tag) _ e).0, f)

  aggregate_shifted : (x : Item) → aggregate_right x ≡ true → shifted_words w x ≡ aggregate_words (move_aggregate (shift w) (aggregate_of x))
  unfolding shifted_words aggregate_of
  aggregate_shifted x e =
      let g = both _ _ e in
      let t = between_says 13 16 x.tag g.0 in
      in_range_lem (λ tag. shifted_words w (item tag) ≡ aggregate_words (move_aggregate (shift w) (aggregate_of (item tag)))) 13 4
      (more refl (more refl (more refl (more refl done)))) x.tag t.0 (omega arith)
    where
      item : ℕ → Item
      item tag = record { tag = tag; first = x.first; second = x.second }

aggregate_copied : (x : Item) → aggregate_right x ≡ true → item_words x ≡ aggregate_words (aggregate_of x)
aggregate_copied x e = ap item_words (sym (aggregate_again x e)) ∙ same (aggregate_of x)
  where
    same : (g : Aggregate) → item_words (aggregate_item g) ≡ aggregate_words g
    same count = refl
    same (sum p) = refl
    same (minimum p) = refl
    same (maximum p) = refl

-- ---- a list of items

-- items that are read, moved and written
moved_list : {A B : Type 0} (new : Item → List ℕ) (words : B → List ℕ) (move : A → B) (read : Item → A) {xs : List Item}
    → Every (λ x. new x ≡ words (move (read x))) xs
    → map new xs ≡ map words (map move (map read xs))
moved_list new words move read {xs} t =
    map_cong new (λ x. words (move (read x))) t ∙ sym (ap (map words) (map_map move read xs) ∙ map_map words (λ x. move (read x)) xs)

pub conjuncts_moved : (D : Domain) (f : ℕ → ℕ) (xs : List Item) → Every (λ x. conjunct_right x ≡ true) xs
    → map (moved_words D f) xs ≡ map conjunct_words (map (move_conjunct D f) (map conjunct_of xs))
conjuncts_moved D f xs t = moved_list (moved_words D f) conjunct_words (move_conjunct D f) conjunct_of (every_map (conjunct_moved D f) t)

pub positions_shifted : (w tag : ℕ) → eqb tag 13 ≡ false → (xs : List Item)
    → Every (λ x. (eqb x.tag tag && (is_local x.first && is_unused x.second)) ≡ true) xs
    → map (shifted_words w) xs ≡ map (position_words tag) (map (shift w) (map position_of xs))
positions_shifted w tag f xs t = moved_list (shifted_words w) (position_words tag) (shift w) position_of (every_map (position_shifted w tag f) t)

pub aggregates_shifted : (w : ℕ) (xs : List Item) → Every (λ x. aggregate_right x ≡ true) xs
    → map (shifted_words w) xs ≡ map aggregate_words (map (move_aggregate (shift w)) (map aggregate_of xs))
aggregates_shifted w xs t = moved_list (shifted_words w) aggregate_words (move_aggregate (shift w)) aggregate_of (every_map (aggregate_shifted w) t)

pub aggregates_copied : (xs : List Item) → Every (λ x. aggregate_right x ≡ true) xs → map item_words xs ≡ map aggregate_words (map aggregate_of xs)
aggregates_copied xs t = map_cong item_words (λ x. aggregate_words (aggregate_of x)) (every_map aggregate_copied t) ∙ sym (map_map aggregate_words aggregate_of xs)

-- ---- columns

-- no columns in front of the left: all move alike
pub shift_both_lem : (w : ℕ) → shift_both 0 w 0 ≡ shift w
shift_both_lem w = λ i p. same p i
  where
    same : (p : ℕ) → shift_both 0 w 0 p ≡ shift w p
    same p = rw (le-ltb p 0 (omega arith), add-zero w)

pub span_first : (w : ℕ) → span 0 w ≡ upto w
span_first w = map_id (shift 0) (every_of zero-add (upto w))

-- ---- a node's head and items

-- node n is written with this head and the items new; extra is a groupjoin's number of aggregates
pub record Written (new : List (List ℕ)) (head : Head) (extra : ℕ) (n : Node) : Type 0 where
  pub items : new ≡ (parts n).items
  pub operator : number_of head.operator ≡ (parts n).operator
  pub left : head.left ≡ (parts n).left
  pub right : head.right ≡ (parts n).right
  pub kind : kind_number head.kind ≡ (parts n).kind
  pub extra_is : (widths : List ℕ) → extra ≡ extra_of widths n

-- the kinds of joins
abbrev pub coded : Kind → JoinKind
coded inner = Inner
coded semi = Semi
coded anti = Anti
coded left_outer = LeftOuter

pub coded_back : (k : Kind) → meant_kind (coded k) ≡ k
coded_back inner = refl
coded_back semi = refl
coded_back anti = refl
coded_back left_outer = refl

pub conjuncts_all : (xs : List Item) → Every (λ x. conjunct_right x ≡ true) xs → conjuncts_in xs ≡ map conjunct_of xs
conjuncts_all xs t = ap (map conjunct_of) (keep_all is_conjunct (every_map (λ x e. (both (is_conjunct x) _ e).0) t))

-- conjuncts that move alike
module _ (D : Domain) (cs : List Conjunct) (xs : List Item) (e : cs ≡ map conjunct_of xs) (t : Every (λ x. conjunct_right x ≡ true) xs) where
  pub conjuncts_alike : map (moved_words D (shift_both 0 D.width 0)) xs ≡ map conjunct_words (map (move_conjunct D (shift D.width)) cs)
  conjuncts_alike = ap (λ (f : ℕ → ℕ). map (moved_words D f) xs) (shift_both_lem D.width) ∙ conjuncts_moved D (shift D.width) xs t ∙ rw e

  -- with tags 7 in front
  pub conjuncts_behind : (ms : List Conjunct) (f : ℕ → ℕ)
      → map conjunct_words ms ++ map (moved_words D f) xs ≡ map conjunct_words (ms ++ map (move_conjunct D f) cs)
  conjuncts_behind ms f = rw (map_append conjunct_words ms (map (move_conjunct D f) cs), conjuncts_moved D f xs t, e)

-- D's columns, then a node's own
pub columns_first : (D : Domain) (tag : ℕ) → eqb tag 13 ≡ false → (ps : List ℕ) (xs : List Item) → ps ≡ map position_of xs
    → Every (λ x. (eqb x.tag tag && (is_local x.first && is_unused x.second)) ≡ true) xs
    → map (position_words tag) (span 0 D.width) ++ map (shifted_words D.width) xs ≡ map (position_words tag) (domain_first D ps)
columns_first D tag f ps xs e t =
    rw (span_first D.width, map_append (position_words tag) (upto D.width) (map (shift D.width) ps), positions_shifted D.width tag f xs t, e)
