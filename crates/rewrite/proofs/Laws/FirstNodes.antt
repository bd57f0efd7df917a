-- What is written after the first nodes of a plan, one node after the other.
use mathlib.Core.Path.{◌≡◌, refl, sym, ap, ◌∙◌}
use mathlib.Core.Bool.{Bool, true, false, true≢false}
use mathlib.Core.List.{List, []}
use Prim.Native.Nat.{ℕ, zero, suc, ◌+◌, ◌-◌, ◌≤◌, ◌<◌}
use native.Mathlib.Nat.{add-zero, add-suc}
use native.Mathlib.Omega.{arith}
use native.Mathlib.Numerals.{add-one}
use lib.Dec.{ltb}
use lib.ListN.{length, get_or, set, replicate, length-replicate, length-set}
use lib.Seq.{get_or-set_same, get_or-set_other}
use borrow.Author.Tests.{ltb-true, ltb-false}
use Rattle.algebra.specs.Columns.{closed, shape_of}
use Rattle.algebra.specs.Rewriting.{Piece, Placed, State, closed_node, piece_at, rewritten, steps}
use Rattle.plan.specs.Words as words
use Rattle.plan.specs.Words.{nodes}
use Rattle.plan.specs.Plan.{node_at, widths_of}
use Rattle.plan.specs.Promise.{Accepted}
use Rattle.pages.specs.declared.page.OverLimits.{OverLimits}
use Rattle.pages.specs.declared.page.Page.{Page}
use Rattle.rewrite.specs.Answer.{new_plan}
use Rattle.pages.specs.Pages.{Finished, Holds, Leaves}
use Rattle.rewrite.specs.Closing.{Closes, closing}
use Rattle.rules.proofs.Laws.AppendedNodes.{AtEnd, Extends, extends_none, extends_then}
use Rattle.rules.proofs.Laws.RulePages.{over_more}
use Rattle.std.specs.Prelude.{Result, Ok, Err, IsErr}
use Rattle.std.proofs.lemmas.Result.{MatchResult-from_err}
use Rattle.rules.proofs.Laws.UnderDomain.{last_is}
use Rattle.rewrite.proofs.Laws.ClosedNodes.{closing_behind, closing_end}
use Rattle.rewrite.proofs.Laws.PlanPieces.{step_closed, step_open, after, shape, after_suc, next_shape}
use Rattle.rewrite.proofs.Laws.PlanPieces.{piece_before, piece_next, image_of, Placing, next_closed, copies_stand}

-- the images as the code keeps them
abbrev copies : List ℕ → ℕ → ℕ
copies images i = get_or images i 0

-- what is known after k nodes
pub record Stepped (ws : List ℕ) (page : Page) (images : List ℕ) (k : ℕ) : Type 0 where
  pub holds : Holds (widths_of ws) page (after ws k).out []
  pub placed : Placing ws (λ i. get_or images i 0) k
  pub size : length images ≡ 256

pub stepped_none : (ws : List ℕ) (page : Page) → Holds (widths_of ws) page [] [] → Stepped ws page (replicate 256 0) 0
unfolding steps
stepped_none ws page h = record {
  holds = h;
  placed = λ i h. absurd (omega arith);
  size = length-replicate {A = ℕ} 256 0;
}

-- one more copy in place
placing_next : (ws : List ℕ) (images : ℕ → ℕ) (k : ℕ) → Placing ws images k → (closed (shape ws k) ≡ true → images k ≡ (piece_at (after ws (suc k)) k).image)
    → Placing ws images (suc k)
placing_next ws images k before last i g = go (ltb i k) refl
  where
    go : (b : Bool) → ltb i k ≡ b → closed (shape ws i) ≡ true → images i ≡ (piece_at (after ws (suc k)) i).image
    go true t c = let l = ltb-true i k t in before i l c ∙ sym (ap (λ (p : Piece). p.image) (piece_before ws k i l))
    go false t c = let q : i ≡ k = omega (arith, ltb-false i k t) in rw q (last (rw q at c))

module _ (ws : List ℕ) (a : Accepted ws) (k : ℕ) (h : k < nodes ws) where
  -- what is written of a closed node
  abbrev written : Placed
  written = closed_node (piece_at (after ws k)) (node_at ws k) (after ws k).out

  -- an open node is not written
  open_same : closed (shape ws k) ≡ false → (after ws (suc k)).out ≡ (after ws k).out
  open_same e = ap (λ (x : State). x.out) (after_suc ws k) ∙ step_open (widths_of ws) (after ws k) (node_at ws k) (ap closed (next_shape ws k h) ∙ e)

  pub stepped_open : {page page₀ : Page} {images images₀ : List ℕ} → closed (shape ws k) ≡ false → Stepped ws page₀ images₀ k → page ≡ page₀
      → images ≡ images₀ → Stepped ws page images (k + 1)
  stepped_open {images₀ = images₀} e s ep em =
      rw (ep, em, add-one)
      (record {
        holds = rw (open_same e) s.holds;
        placed = placing_next ws (λ i. get_or images₀ i 0) k s.placed (λ q. absurd (true≢false (sym q ∙ e)));
        size = s.size;
      })

  module _ (closes : closed (shape ws k) ≡ true) where
    next_is : closed (shape_of (widths_of ws) (λ i. (piece_at (after ws k) i).shape) (node_at ws k)) ≡ true
    next_is = ap closed (next_shape ws k h) ∙ closes

    after_closed : (after ws (suc k)).out ≡ written.out
    after_closed = ap (λ (x : State). x.out) (after_suc ws k) ∙ step_closed (widths_of ws) (after ws k) (node_at ws k) next_is

    image_closed : (piece_at (after ws (suc k)) k).image ≡ written.at
    image_closed = ap (λ (p : Piece). p.image) (piece_next ws k) ∙ rw next_is

    -- its nodes go behind those before, and the last is its copy
    written_is : written ≡ closing ws (image_of ws k) k (after ws k).out
    written_is = next_closed ws a.formed (image_of ws k) k h closes (λ i g c. refl) (after ws k).out

    written_behind : Extends (after ws k).out written.out
    written_behind = rw written_is (closing_behind ws (image_of ws k) k (after ws k).out)

    written_end : AtEnd written
    written_end = rw written_is (closing_end ws (image_of ws k) k (after ws k).out)

    -- what it writes
    closing_leaves : {page q : Page} {images : List ℕ} (result : Result ℕ OverLimits) → Stepped ws page images k → Closes ws images k page q result
        → Leaves (widths_of ws) q (after ws (suc k)).out result
    closing_leaves {images = images} result s wrote =
        rw (after_closed, next_closed ws a.formed (copies images) k h closes s.placed (after ws k).out)
        (wrote.written (after ws k).out (copies_stand ws a (copies images) k (omega arith) s.placed) s.holds)

    pub stepped_closed : {page₀ page₁ page : Page} {images₀ images : List ℕ} {x : ℕ} → Stepped ws page₀ images₀ k
        → Closes ws images₀ k page₀ page₁ (Ok x) → page ≡ page₁ → images ≡ set images₀ k x → k < 256 → Stepped ws page images (k + 1)
    stepped_closed {images₀ = images₀} {x = x} s wrote ep em few =
        let left = closing_leaves (Ok x) s wrote in
        let e : x ≡ written.at = last_is written (rw after_closed at left.1) written_end in
        rw (ep, em, add-one)
        (record {
          holds = left.0;
          placed =
              placing_next ws (copies (set images₀ k x)) k (λ i g u. get_or-set_other images₀ k i x 0 (λ r. omega arith) ∙ s.placed i g u)
              (λ u. get_or-set_same images₀ k x 0 (omega (arith, s.size)) ∙ e ∙ sym image_closed);
          size = length-set images₀ k x ∙ s.size;
        })

  -- one node writes behind those before
  step_behind : Extends (after ws k).out (after ws (suc k)).out
  step_behind = go (closed (shape ws k)) refl
    where
      go : (b : Bool) → closed (shape ws k) ≡ b → Extends (after ws k).out (after ws (suc k)).out
      go true e = rw (after_closed e) (written_behind e)
      go false e = rw (open_same e) extends_none

-- so do more
after_behind : (ws : List ℕ) → Accepted ws → (k d : ℕ) → k + d ≤ nodes ws → Extends (after ws k).out (after ws (k + d)).out
after_behind ws a k zero h = rw add-zero extends_none
after_behind ws a k (suc d) h =
    rw add-suc (extends_then (after_behind ws a k d (omega arith)) (step_behind ws a (k + d) (omega arith)))

-- what is too much after some nodes is so after all
pub stepped_over : {ws : List ℕ} (a : Accepted ws) (k : ℕ) (h : k < nodes ws) → closed (shape ws k) ≡ true → {page q : Page} {images : List ℕ} {x : OverLimits}
    → Stepped ws page images k → Closes ws images k page q (Err x) → (r : Page) (result : Result Unit OverLimits) → IsErr result
    → Finished (widths_of ws) (new_plan ws) r result
unfolding rewritten
stepped_over {ws} a k h closes {x = x} s wrote r result e =
    let rest = after_behind ws a (suc k) (nodes ws - suc k) (omega arith) in
    let q : suc k + (nodes ws - suc k) ≡ nodes ws = omega arith in
    MatchResult-from_err result _ _ e (λ _. over_more (rw q at rest) (closing_leaves ws a k h closes (Err x) s wrote))

-- all nodes
pub stepped_all : {ws : List ℕ} {page : Page} {images : List ℕ} (k n : ℕ) → Stepped ws page images k → n ≡ words.nodes ws → k ≤ n → n ≤ k
    → Finished (widths_of ws) (new_plan ws) page (Ok tt)
unfolding rewritten
stepped_all {ws} k n s e g h = let q : k ≡ words.nodes ws = omega arith in rw q at s.holds
