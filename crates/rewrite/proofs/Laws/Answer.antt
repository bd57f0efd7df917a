-- What the rewriter answers of an accepted plan, and the words that it writes.
use mathlib.Core.Path.{◌≡◌, refl, sym, ap, subst, ◌∙◌}
use mathlib.Core.Bool.{Bool, true, false}
use mathlib.Core.List.{List, [], ◌∷◌, ◌++◌, append-nil}
use Prim.Native.Nat.{ℕ, ◌+◌, ◌*◌, ◌≤◌, ◌<◌}
use native.Mathlib.Nat.{add-zero}
use native.Mathlib.Omega.{arith}
use lib.Dec.{leb, ltb}
use lib.ListN.{length, take, drop, length-drop}
use lib.Seq.{length-take-le, get_or-take, get_or-drop}
use borrow.Author.Tests.{ltb-true, ltb-false, leb-true, le-leb, lt-ltb, le-ltb, ne_eqb}
use Rattle.algebra.specs.Lists.{each, upto}
use Rattle.algebra.specs.Plan.{Node}
use Rattle.algebra.specs.Columns.{Shape, shape_at}
use Rattle.algebra.proofs.Lists.Same.{and_left, and_right}
use Rattle.algebra.proofs.Lists.Every.{every_of}
use Rattle.algebra.proofs.Domains.Keys.{upto_all}
use Rattle.plan.specs.Words.{tables, table_width}
use Rattle.plan.specs.Plan.{widths_of}
use Rattle.plan.specs.declared.Refusal.{Refusal}
use Rattle.plan.specs.declared.Refusal.TheVariants.{Header, Limits, Malformed, Unused, TooWide, OpenTwice, NoColumn}
use Rattle.plan.specs.Answers.{refusal_of}
use Rattle.plan.specs.Verdict.{accepted, verdict}
use Rattle.plan.specs.Encoding.{all_items, words_of}
use Rattle.plan.proofs.Promise.{promise}
use Rattle.plan.proofs.Laws.Encoded.{length_of}
use Rattle.plan.proofs.Laws.Formed.{limited}
use Rattle.plan.proofs.Laws.Header.{header_says}
use Rattle.plan.proofs.Laws.Loops.{all_of}
use Rattle.plan.proofs.Laws.Numbered.{every_all, numbered, numbered_length}
use Rattle.plan.proofs.Laws.Words.{word_read}
use Rattle.pages.specs.declared.page.Page.{Page}
use Rattle.rewrite.specs.declared.RewriteRefusal.TheVariants.{Plan, OverLimits, NoRoom}
use Rattle.rewrite.specs.declared.RewriteRefusal.{RewriteRefusal}
use Rattle.std.specs.Prelude.{Result, Ok, Err, IsErrAnd}
use Rattle.rewrite.specs.Numbers.{rewriting_of}
use Rattle.rewrite.specs.Answer.{within_limits, new_plan, new_words, refusal, rewriting, output_after}
use Rattle.plan.specs.Words.{total}
use Rattle.pages.specs.Output.{table}
use Rattle.pages.specs.Pages.{Fits, Holds}
use Rattle.pages.proofs.Laws.Pages.{shape_past}

-- ---- the limits

module _ (widths : List ℕ) (ns : List Node) where
  -- what fits passes the test
  fits_within : Fits widths ns [] → within_limits widths ns ≡ true
  unfolding within_limits
  fits_within f =
      rw (le-leb (length ns) 256 f.nodes, le-leb (length (all_items ns)) 2000 (omega (arith, f.items)))
      (all_of (λ i. leb (shape_at widths ns i).width 64) (every_of (λ i. le-leb _ _ (f.rows i)) (upto (length ns))))

  -- what passes the test fits: past the last node there is no row
  within_fits : within_limits widths ns ≡ true → Fits widths ns []
  unfolding within_limits
  within_fits e =
      let rest = and_right (leb (length ns) 256) _ e in
      let narrow = and_right (leb (length (all_items ns)) 2000) _ rest in
      let rows = upto_all (length ns) (every_all (λ i. leb (shape_at widths ns i).width 64) (upto (length ns)) narrow) in
      record {
        nodes = leb-true _ _ (and_left (leb (length ns) 256) _ e);
        items = omega (arith, leb-true (length (all_items ns)) 2000 (and_left (leb (length (all_items ns)) 2000) _ rest));
        rows = λ i. row rows i (ltb i (length ns)) refl;
      }
    where
      row : ((i : ℕ) → i < length ns → leb (shape_at widths ns i).width 64 ≡ true) → (i : ℕ) (b : Bool) → ltb i (length ns) ≡ b
          → (shape_at widths ns i).width ≤ 64
      row h i true t = leb-true _ _ (h i (ltb-true i (length ns) t))
      row h i false t = subst (λ (s : Shape). s.width ≤ 64) (sym (shape_past widths ns i (ltb-false i (length ns) t))) (omega arith)

  -- what was too much does not pass it
  over_limits : (Fits widths ns [] → ⊥) → within_limits widths ns ≡ false
  over_limits h = go (within_limits widths ns) refl
    where
      go : (b : Bool) → within_limits widths ns ≡ b → b ≡ false
      go true e = absurd (h (within_fits e))
      go false e = refl

-- ---- the words

-- the widths of the tables stand behind the header
widths_there : (ws : List ℕ) → 8 + tables ws ≤ length ws → widths_of ws ≡ take (tables ws) (drop 8 ws)
widths_there ws h =
    let t : ℕ = tables ws in
    let size : length (take t (drop 8 ws)) ≡ t = length-take-le t (drop 8 ws) (omega (arith, length-drop 8 ws)) in
    rw size at
    (numbered (table_width ws) (take t (drop 8 ws)) 0
    (λ i l. sym (get_or-take t (drop 8 ws) i 0 (omega arith) ∙ get_or-drop 8 ws i 0 ∙ word_read ws (8 + i))))

-- what the page holds are the words of the plan
table_words : (ws widths : List ℕ) (page : Page) (ns : List Node) → take (tables ws) (drop 8 ws) ≡ widths → tables ws ≡ length widths
    → Holds widths page ns [] → table ws page ≡ words_of widths ns
unfolding table words_of
table_words ws widths page ns front t q =
    let i : page.item_count ≡ length (all_items ns) = q.listed ∙ add-zero _ in
    let listed : each (λ w. w) (take page.item_count page.items) ≡ each (λ w. w) (all_items ns) =
    ap (each (λ w. w)) (q.items_are ∙ append-nil (all_items ns)) in
    λ j. (8 + t j + 6 * q.count j + 7 * i j) ∷ t j ∷ 8 ∷ q.count j ∷ (8 + t j) ∷ i j ∷ (8 + t j + 6 * q.count j) ∷ 0
    ∷ (front j ++ (q.nodes_are j ++ listed j))

-- ---- the answers

-- a refusal, and the output as it was
refused : (ws out : List ℕ) (k n : ℕ) → (k ≡ 0 → ⊥) → refusal ws (length out) ≡ record { number = k; node = n }
    → (record { number = k; node = n; count = 0 } ≡ rewriting ws (length out)) × (out ≡ output_after ws out)
unfolding rewriting output_after
refused ws out k n h q = (rw (q, ne_eqb k 0 h), rw (q, ne_eqb k 0 h))

-- an error that a `?` hands on
pub err_is : (r : Result ℕ RewriteRefusal) (x : RewriteRefusal) → IsErrAnd r (λ e. e ≡ x) → r ≡ Err x
err_is (Ok n) x h = absurd h
err_is (Err e) x h = ap Err h

-- refusals 1 to 7
pub refused_first : (ws out : List ℕ) (r : Refusal) → refusal_of r ≡ verdict ws
    → (rewriting_of (Err (Plan r)) ≡ rewriting ws (length out)) × (out ≡ output_after ws out)
unfolding refusal
refused_first ws out r e = refused ws out (refusal_of r).number (refusal_of r).node (some r) (rw (sym e, ne_eqb (refusal_of r).number 0 (some r)))
  where
    some : (s : Refusal) → (refusal_of s).number ≡ 0 → ⊥
    some Header q = omega arith
    some Limits q = omega arith
    some (Malformed n) q = omega arith
    some (Unused n) q = omega arith
    some (TooWide n) q = omega arith
    some (OpenTwice n) q = omega arith
    some (NoColumn n) q = omega arith

-- an accepted plan that was rewritten
module _ (ws : List ℕ) (e : verdict ws ≡ accepted) where
  -- it was too much
  pub refused_over : (out : List ℕ) → (Fits (widths_of ws) (new_plan ws) [] → ⊥)
      → (rewriting_of (Err OverLimits) ≡ rewriting ws (length out)) × (out ≡ output_after ws out)
  unfolding refusal
  refused_over out bad = refused ws out 8 0 (λ q. omega arith) (rw (e, over_limits (widths_of ws) (new_plan ws) bad))

  module _ (page : Page) (holds : Holds (widths_of ws) page (new_plan ws) []) where
    within : within_limits (widths_of ws) (new_plan ws) ≡ true
    within = fits_within (widths_of ws) (new_plan ws) holds.fits

    -- there are not too many words for the code
    pub few_words : (8 + tables ws ≤ length ws) × (tables ws ≤ 16) × (page.node_count ≤ 256) × (page.item_count ≤ 2000)
    few_words =
        let sized = (promise ws e).formed.sized in
        let header = header_says ws sized.header in
        (omega arith, (limited ws sized).tables_few, omega (arith, holds.count, holds.fits.nodes), omega (arith, holds.listed, holds.fits.items))

    words : table ws page ≡ new_words ws
    words =
        table_words ws (widths_of ws) page (new_plan ws) (sym (widths_there ws few_words.0))
        (sym (numbered_length (table_width ws) (tables ws))) holds

    module _ (count : ℕ) (is : count ≡ total (tables ws) page.node_count page.item_count) where
      -- they are as many as the new plan has
      words_count : count ≡ length (new_words ws)
      words_count =
          is ∙ (λ j. total (sym (numbered_length (table_width ws) (tables ws)) j) (holds.count j) ((holds.listed ∙ add-zero _) j))
          ∙ sym (length_of (widths_of ws) (new_plan ws))

      -- there is no room
      pub refused_room : (out : List ℕ) → length out < count → (rewriting_of (Err NoRoom) ≡ rewriting ws (length out)) × (out ≡ output_after ws out)
      unfolding refusal
      refused_room out h = refused ws out 9 0 (λ q. omega arith) (rw (e, within, lt-ltb (length out) (length (new_words ws)) (rw words_count at h)))

      -- they are written
      pub written : (answered : ℕ) → answered ≡ count → (out out' : List ℕ) → count ≤ length out
          → out' ≡ table ws page ++ drop (total (tables ws) page.node_count page.item_count) out
          → (rewriting_of (Ok answered) ≡ rewriting ws (length out)) × (out' ≡ output_after ws out)
      unfolding refusal rewriting output_after
      written answered same out out' h q =
          let room : ltb (length out) (length (new_words ws)) ≡ false = le-ltb (length out) (length (new_words ws)) (rw words_count at h) in
          (rw (e, within, room, same, words_count), rw (e, within, room) (q ∙ (λ j. words j ++ drop ((sym is ∙ words_count) j) out)))
