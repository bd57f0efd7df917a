-- The pages behind the nodes that a rule emits.
use mathlib.Core.Path.{◌≡◌, refl, sym}
use mathlib.Core.Logic.{◌⊎◌, inl, inr}
use mathlib.Core.List.{List, [], ◌∷◌, ◌++◌, map, append-nil}
use Prim.Native.Nat.{ℕ, ◌+◌}
use native.Mathlib.Omega.{arith}
use lib.ListN.{length, length-append}
use borrow.Author.Tests.{ne_eqb}
use Rattle.algebra.specs.Lists.{keep}
use Rattle.algebra.specs.Plan.{Node, project, group}
use Rattle.algebra.specs.Domains.{around, span}
use Rattle.algebra.specs.Rewriting.{Placed, emit, dropping}
use Rattle.algebra.proofs.Lists.Keep.{map_append}
use Rattle.plan.specs.Words.{operator, first_item, item_count, items_from}
use Rattle.plan.specs.Items.{between}
use Rattle.plan.specs.Codes.{meant_kind}
use Rattle.plan.specs.declared.kinds.JoinKind.{JoinKind}
use Rattle.plan.specs.declared.kinds.JoinKind.TheVariants.{Inner, Semi, Anti, LeftOuter}
use Rattle.plan.specs.declared.operator.Operator.TheVariants.{Project, Group}
use Rattle.plan.specs.Encoding.{position_words}
use Rattle.pages.specs.declared.page.Head.{Head}
use Rattle.pages.specs.declared.page.OverLimits.{OverLimits}
use Rattle.pages.specs.declared.page.Page.{Page}
use Rattle.pages.specs.Pages.{Fits, Holds, Wrote, Missed, Pushed, Grows, Drops, head_of}
use Rattle.rules.specs.Under.{conjunct_count}
use Rattle.pages.proofs.Laws.Pages.{fits_before, fits_front, over}
use Rattle.rules.proofs.Laws.AppendedNodes.{Extends, extends_dropping}
use Rattle.rules.proofs.Laws.RuleItems.{Written}
use Rattle.std.specs.Prelude.{None, Result, Ok, Err, IsErr}

-- ---- one node more

-- more nodes are too much where the first of them are
pub over_more : {widths : List ℕ} {out more : List Node} → Extends out more → (Fits widths out [] → ⊥) → Fits widths more [] → ⊥
over_more {out} e f t = f (fits_front out e.rest (rw e.is at t))

-- items, and then the node that they are of
module _ {p q : Page} {head : Head} {extra : ℕ} (new : List (List ℕ)) (n : Node) (w : Written new head extra n) where
  pub grows : Wrote p q new → (r : Page) (result : Result ℕ OverLimits) → Pushed q r result p.item_count head extra → Grows p r result (λ out. out ++ (n ∷ []))
  grows wrote r result pushed = record {
    written = λ widths out h.
        pushed.written widths out n (rw w.items at (wrote.holds widths out [] h))
        (record {
          operator = w.operator;
          left = w.left;
          right = w.right;
          kind = w.kind;
          extra_is = w.extra_is widths;
          first_is = omega (arith, h.listed);
        });
  }

-- the first of the items are too much
pub missed_over : {p q : Page} {head : Head} {extra : ℕ} {widths : List ℕ} {out : List Node} (new : List (List ℕ)) (n : Node) → Written new head extra n
    → Missed p q new → Holds widths p out [] → Fits widths (out ++ (n ∷ [])) [] → ⊥
missed_over {widths = widths} {out = out} new n w m h t = m.over widths out [] h (rw (w.items) (fits_before out n t))

pub grows_over : {p : Page} (f : List Node → List Node) → ((widths : List ℕ) (out : List Node) → Holds widths p out [] → Fits widths (f out) [] → ⊥)
    → (r : Page) (result : Result ℕ OverLimits) → IsErr result → Grows p r result f
grows_over f g r result e = record { written = λ widths out h. over widths r (f out) result e (g widths out h) }

pub grows_missed : {p q : Page} {head : Head} {extra : ℕ} (new : List (List ℕ)) (n : Node) → Written new head extra n → Missed p q new
    → (r : Page) (result : Result ℕ OverLimits) → IsErr result → Grows p r result (λ out. out ++ (n ∷ []))
grows_missed new n w m = grows_over (λ out. out ++ (n ∷ [])) (λ widths out h. missed_over new n w m h)

-- the same by another name
pub grows_as : {p r : Page} {result : Result ℕ OverLimits} (f g : List Node → List Node) → ((out : List Node) → f out ≡ g out)
    → Grows p r result f → Grows p r result g
grows_as f g e h = record { written = λ widths out t. rw (e out) at (h.written widths out t) }

-- a domain over keys
pub domain_written : (ks : List ℕ) (i : ℕ) → Written (map (position_words 11) ks) (head_of Group i 0 None) 0 (group ks [] i)
domain_written ks i = record {
  items = sym (append-nil (map (position_words 11) ks));
  operator = refl;
  left = refl;
  right = refl;
  kind = refl;
  extra_is = λ widths. refl;
}

-- ---- the project behind a join

-- the kinds that have one
kept_kind : (k : JoinKind) (ps : List ℕ) (x : Placed) → (k ≡ Semi) ⊎ (k ≡ Anti) → dropping (meant_kind k) ps x ≡ x
kept_kind k ps x (inl e) = rw e
kept_kind k ps x (inr e) = rw e

dropped_kind : (k : JoinKind) (ps : List ℕ) (x : Placed) → (k ≡ Inner) ⊎ (k ≡ LeftOuter) → dropping (meant_kind k) ps x ≡ emit (project ps x.at) x.out
dropped_kind k ps x (inl e) = rw e
dropped_kind k ps x (inr e) = rw e

pub columns_kept : (p : Page) (k : JoinKind) (n m w i : ℕ) → (k ≡ Semi) ⊎ (k ≡ Anti) → Drops k n m w i p p (Ok i)
columns_kept p k n m w i h = record {
  written = λ widths out x held e. rw (kept_kind k (around n m w) (emit x out) h) (held, omega (arith, length-append out (x ∷ [])));
}

-- the project is written
projected : (n m w i : ℕ) → Written (map (position_words 12) (span 0 n) ++ map (position_words 12) (span (n + m) w)) (head_of Project i 0 None) 0 (project (around n m w) i)
projected n m w i = record {
  items = sym (map_append (position_words 12) (span 0 n) (span (n + m) w));
  operator = refl;
  left = refl;
  right = refl;
  kind = refl;
  extra_is = λ widths. refl;
}

-- its columns
abbrev pub columns_around : ℕ → ℕ → ℕ → List (List ℕ)
columns_around n m w = map (position_words 12) (span 0 n) ++ map (position_words 12) (span (n + m) w)

module _ {p : Page} (k : JoinKind) (n m w i : ℕ) (h : (k ≡ Inner) ⊎ (k ≡ LeftOuter)) where
  pub columns_dropped : {q r : Page} {result : Result ℕ OverLimits} → Wrote p q (columns_around n m w) → Pushed q r result p.item_count (head_of Project i 0 None) 0
      → Drops k n m w i p r result
  columns_dropped {q} {r} {result} wrote pushed = record {
    written = λ widths out x held e.
        rw (dropped_kind k (around n m w) (emit x out) h, ← e)
        ((grows (columns_around n m w) (project (around n m w) i) (projected n m w i) wrote r result pushed).written widths (out ++ (x ∷ [])) held);
  }

  pub columns_missed : {q : Page} → Missed p q (columns_around n m w) → (r : Page) (result : Result ℕ OverLimits) → IsErr result → Drops k n m w i p r result
  columns_missed missed r result t = record {
    written = λ widths out x held e.
        rw (dropped_kind k (around n m w) (emit x out) h, ← e)
        ((grows_missed (columns_around n m w) (project (around n m w) i) (projected n m w i) missed r result t).written widths (out ++ (x ∷ [])) held);
  }

-- a join and its project
module _ (k : JoinKind) (n m w : ℕ) (x : Node) where
  abbrev pub both : List Node → List Node
  both out = (dropping (meant_kind k) (around n m w) (emit x out)).out

  pub drops : {p q r : Page} {i : ℕ} {result : Result ℕ OverLimits} → Grows p q (Ok i) (λ out. out ++ (x ∷ [])) → Drops k n m w i q r result → Grows p r result both
  drops g h = record {
    written = λ widths out t.
        let held = g.written widths out t in
        h.written widths out x held.0 (omega (arith, held.1, length-append out (x ∷ [])));
  }

  -- the join is too much
  pub drops_over : {p q : Page} {e : OverLimits} → Grows p q (Err e) (λ out. out ++ (x ∷ [])) → (r : Page) (result : Result ℕ OverLimits) → IsErr result → Grows p r result both
  drops_over g = grows_over both (λ widths out t. over_more (extends_dropping (meant_kind k) (around n m w) (emit x out)) (g.written widths out t))

  pub drops_missed : {p q : Page} {head : Head} {extra : ℕ} (new : List (List ℕ)) → Written new head extra x → Missed p q new
      → (r : Page) (result : Result ℕ OverLimits) → IsErr result → Grows p r result both
  drops_missed new f g =
      grows_over both (λ widths out t. over_more (extends_dropping (meant_kind k) (around n m w) (emit x out)) (missed_over new x f g t))

-- ---- how many conjuncts

module _ (ws : List ℕ) (n count : ℕ) (f : count ≡ item_count ws n) where
  pub count_some : (a r : ℕ) → operator ws n ≡ 7 → a ≡ first_item ws n → r ≡ length (keep (λ x. between 1 7 x.tag) (items_from ws a count)) → r ≡ conjunct_count ws n
  count_some a r g h q = rw (g, ← f, ← h) q

  pub count_all : (operator ws n ≡ 7 → ⊥) → count ≡ conjunct_count ws n
  count_all g = rw (ne_eqb (operator ws n) 7 g) f
