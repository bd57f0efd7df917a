-- What the code has written: one item more, one node more, and when it was too much.
use mathlib.Core.Path.{◌≡◌, refl, ap, sym, subst, ◌∙◌}
use mathlib.Core.Bool.{Bool, true, false}
use mathlib.Core.List.{List, [], ◌∷◌, ◌++◌, append-nil, append_assoc}
use Prim.Native.Nat.{ℕ, ◌+◌, ◌-◌, ◌<◌, ◌≤◌}
use native.Mathlib.Omega.{arith}
use native.Mathlib.Nat.{add-zero, add_assoc}
use lib.Dec.{ltb}
use lib.ListN.{length, get_or, take, set, length-append, length-map, get_or-eq_default}
use lib.Seq.{get_or-set_same, get_or-set_other}
use Rattle.std.proofs.lemmas.List.{take_more_set}
use Rattle.std.specs.Prelude.{Result, Ok, Err, IsErr}
use Rattle.std.proofs.lemmas.Result.{MatchResult-from_err}
use borrow.Author.Tests.{ltb-true, ltb-false}
use Rattle.algebra.specs.Lists.{each, list_from}
use Rattle.algebra.specs.Plan.{inner, semi, anti, left_outer, Node, scan, select, compute, project, join, group, groupjoin, dependent, width_of}
use Rattle.algebra.specs.Columns.{Shape, shapeless, shape_of, shape_at}
use Rattle.algebra.proofs.Lists.Keep.{each_append}
use Rattle.algebra.proofs.Lists.Entries.{entries_length, entry_before, entry_last}
use Rattle.plan.specs.Encoding.{parts, node_words, all_items}
use Rattle.pages.specs.declared.page.Page.{Page}
use Rattle.pages.specs.declared.page.OverLimits.{OverLimits}
use Rattle.pages.specs.declared.page.Head.{Head}
use Rattle.plan.specs.Codes.{number_of}
use Rattle.pages.specs.Pages.{Fits, Holds, ItemsAlone, Wrote, Missed, Added, width_by, extra_of, kind_number, Headed, Pushed, Leaves}

-- ---- widths

-- the width of a node from its words
pub width_by_lem : (widths : List ℕ) (at : ℕ → ℕ) (n : Node)
    → width_of widths at n ≡ width_by at (parts n).operator (parts n).left (parts n).right (parts n).kind (length (parts n).items) (extra_of widths n)
unfolding width_by
width_by_lem widths at (scan t) = refl
width_by_lem widths at (select cs i) = refl
width_by_lem widths at (compute c i) = refl
width_by_lem widths at (project ps i) = sym (length-map ps _)
width_by_lem widths at (join inner cs l r) = refl
width_by_lem widths at (join semi cs l r) = refl
width_by_lem widths at (join anti cs l r) = refl
width_by_lem widths at (join left_outer cs l r) = refl
width_by_lem widths at (group ks gs i) = simp (length-append, length-map)
width_by_lem widths at (groupjoin cs gs l r) = refl
width_by_lem widths at (dependent inner cs l r) = refl
width_by_lem widths at (dependent semi cs l r) = refl
width_by_lem widths at (dependent anti cs l r) = refl
width_by_lem widths at (dependent left_outer cs l r) = refl

-- it looks only at the inputs
width_same : (at at' : ℕ → ℕ) (o l r k count extra : ℕ) → at l ≡ at' l → at r ≡ at' r → width_by at o l r k count extra ≡ width_by at' o l r k count extra
unfolding width_by
width_same at at' o l r k count extra e f = rw (e, f)

-- ---- the shapes of nodes

module _ (widths : List ℕ) where
  -- nodes behind change nothing
  shape_before : (out more : List Node) (i : ℕ) → i < length out → shape_at widths (out ++ more) i ≡ shape_at widths out i
  shape_before out more i h = entry_before shapeless (shape_of widths) out more i h

  shape_last : (out : List Node) (n : Node) → shape_at widths (out ++ (n ∷ [])) (length out) ≡ shape_of widths (shape_at widths out) n
  shape_last out n = entry_last shapeless (shape_of widths) out n

  pub shape_past : (out : List Node) (i : ℕ) → length out ≤ i → shape_at widths out i ≡ shapeless
  shape_past out i h =
      get_or-eq_default (list_from shapeless (shape_of widths) [] out) shapeless {n = i} (rw (entries_length shapeless (shape_of widths) out) h)

  -- the first nodes of what is within the limits are so
  rows_before : (out more : List Node) → ((i : ℕ) → (shape_at widths (out ++ more) i).width ≤ 64) → (i : ℕ) → (shape_at widths out i).width ≤ 64
  rows_before out more f i = go (ltb i (length out)) refl
    where
      go : (b : Bool) → ltb i (length out) ≡ b → (shape_at widths out i).width ≤ 64
      go true t = subst (λ (s : Shape). s.width ≤ 64) (shape_before out more i (ltb-true i (length out) t)) (f i)
      go false t = subst (λ (s : Shape). s.width ≤ 64) (sym (shape_past out i (ltb-false i (length out) t))) (omega arith)

  -- what holds of the widths before, of the last and of none behind holds of all
  by_row : (out : List Node) (n : Node) (P : ℕ → ℕ → Type 0) → ((i : ℕ) → i < length out → P i (shape_at widths out i).width)
      → P (length out) (shape_at widths (out ++ (n ∷ [])) (length out)).width → ((i : ℕ) → length out < i → P i 0)
      → (i : ℕ) → P i (shape_at widths (out ++ (n ∷ [])) i).width
  by_row out n P before last past i = first (ltb i (length out)) refl
    where
      second : length out ≤ i → (b : Bool) → ltb (length out) i ≡ b → P i (shape_at widths (out ++ (n ∷ [])) i).width
      second g true t =
          let h = ltb-true (length out) i t in
          let long : length (out ++ (n ∷ [])) ≤ i = rw length-append (omega arith) in
          subst (λ (s : Shape). P i s.width) (sym (shape_past (out ++ (n ∷ [])) i long)) (past i h)
      second g false t =
          let e : length out ≡ i = omega (arith, ltb-false (length out) i t) in
          subst (λ (k : ℕ). P k (shape_at widths (out ++ (n ∷ [])) k).width) e last

      first : (b : Bool) → ltb i (length out) ≡ b → P i (shape_at widths (out ++ (n ∷ [])) i).width
      first true t =
          let h = ltb-true i (length out) t in
          subst (λ (s : Shape). P i s.width) (sym (shape_before out (n ∷ []) i h)) (before i h)
      first false t = second (ltb-false i (length out) t) (ltb (length out) i) refl

-- ---- within the limits

pub fits_front : {widths : List ℕ} (out more : List Node) → Fits widths (out ++ more) [] → Fits widths out []
fits_front {widths} out more f = record {
  nodes = omega (arith, f.nodes, length-append out more);
  items = omega (arith, f.items, ap length (each_append (λ n. (parts n).items) out more), length-append (all_items out) (all_items more));
  rows = rows_before widths out more f.rows;
}

-- fewer items of the next node
pub fits_fewer : {widths : List ℕ} {out : List Node} (xs ys : List (List ℕ)) → Fits widths out (xs ++ ys) → Fits widths out xs
fits_fewer xs ys f = record { nodes = f.nodes; items = omega (arith, f.items, length-append xs ys); rows = f.rows }

-- the items of one node more
items_snoc : (out : List Node) (n : Node) → all_items (out ++ (n ∷ [])) ≡ all_items out ++ (parts n).items
items_snoc out n = each_append (λ m. (parts m).items) out (n ∷ []) ∙ ap (λ (l : List (List ℕ)). all_items out ++ l) (append-nil (parts n).items)

-- without the last node, whose items are then those of a next node
pub fits_before : {widths : List ℕ} (out : List Node) (n : Node) → Fits widths (out ++ (n ∷ [])) [] → Fits widths out (parts n).items
fits_before {widths} out n f = record {
  nodes = omega (arith, f.nodes, length-append out (n ∷ []));
  items = omega (arith, f.items, ap length (items_snoc out n), length-append (all_items out) (parts n).items);
  rows = rows_before widths out (n ∷ []) f.rows;
}

-- ---- more items

alone_then : {p q r : Page} → ItemsAlone p q → ItemsAlone q r → ItemsAlone p r
alone_then f g = record { nodes = g.nodes ∙ f.nodes; rows = g.rows ∙ f.rows; node_count = g.node_count ∙ f.node_count }

-- items, and then more
pub wrote_then : {p q r : Page} (xs ys : List (List ℕ)) → Wrote p q xs → Wrote q r ys → Wrote p r (xs ++ ys)
wrote_then xs ys f g = record {
  holds = λ widths out zs h. rw append_assoc at (g.holds widths out (zs ++ xs) (f.holds widths out zs h));
  alone = alone_then f.alone g.alone;
}

pub missed_then : {p q r : Page} (xs ys : List (List ℕ)) → Wrote p q xs → Missed q r ys → Missed p r (xs ++ ys)
missed_then xs ys f g = record {
  over = λ widths out zs h t. g.over widths out (zs ++ xs) (f.holds widths out zs h) (rw append_assoc t);
  alone = alone_then f.alone g.alone;
}

pub added_then : {p q : Page} (r : Page) (result : Result Unit OverLimits) (xs ys : List (List ℕ)) → Wrote p q xs → Added q r result ys
    → Added p r result (xs ++ ys)
added_then r (Ok u) xs ys f g = wrote_then xs ys f g
added_then r (Err e) xs ys f g = missed_then xs ys f g

-- what is over stays over
pub missed_more : {p q : Page} (xs ys : List (List ℕ)) → Missed p q xs → Missed p q (xs ++ ys)
missed_more xs ys f = record {
  over = λ widths out zs h t. f.over widths out zs h (fits_fewer (zs ++ xs) ys (rw append_assoc t));
  alone = f.alone;
}

pub wrote_none : (p : Page) → Wrote p p []
wrote_none p = record { holds = λ widths out xs h. rw append-nil h; alone = record { nodes = refl; rows = refl; node_count = refl } }

-- the same items by another name
pub wrote_as : {p q : Page} {new other : List (List ℕ)} → new ≡ other → Wrote p q new → Wrote p q other
wrote_as {p} {q} e = subst (Wrote p q) e

pub missed_as : {p q : Page} {new other : List (List ℕ)} → new ≡ other → Missed p q new → Missed p q other
missed_as {p} {q} e = subst (Missed p q) e

pub added_as : (p q : Page) (result : Result Unit OverLimits) {new other : List (List ℕ)} → new ≡ other → Added p q result new → Added p q result other
added_as p q result e = subst (Added p q result) e

-- an error that a `?` hands on
pub missed : (p q : Page) (result : Result Unit OverLimits) {new : List (List ℕ)} → IsErr result → Missed p q new → Added p q result new
missed p q result e f = MatchResult-from_err result _ _ e (λ _. f)

pub over : (widths : List ℕ) (page : Page) (out : List Node) (result : Result ℕ OverLimits) → IsErr result → (Fits widths out [] → ⊥)
    → Leaves widths page out result
over widths page out result e f = MatchResult-from_err result _ _ e (λ _. f)

-- ---- one node more

-- the words of one node more
node_snoc : (from : ℕ) (out : List Node) (n : Node)
    → node_words from (out ++ (n ∷ []))
    ≡ node_words from out ++ ((parts n).operator ∷ (parts n).left ∷ (parts n).right ∷ (parts n).kind ∷ (from + length (all_items out)) ∷ length (parts n).items ∷ [])
node_snoc from [] n = rw (add-zero from)
node_snoc from (m ∷ out) n = rw (node_snoc (from + length (parts m).items) out n, length-append, add_assoc)

-- its head by another name
pub pushed_as : {p q : Page} {result : Result ℕ OverLimits} {first : ℕ} {head head' : Head} {extra : ℕ} → head ≡ head'
    → Pushed p q result first head extra → Pushed p q result first head' extra
pushed_as {p} {q} {result} {first} {extra = extra} e = subst (λ (h : Head). Pushed p q result first h extra) e

-- 256 nodes are there already
pub full_nodes : {page : Page} {e : OverLimits} {first : ℕ} {head : Head} {extra : ℕ} → 256 ≤ page.node_count
    → Pushed page page (Err e) first head extra
full_nodes g = record {
  written = λ widths out n q h f. omega (arith, q.count, f.nodes, length-append out (n ∷ []));
  alone = record { items = refl; item_count = refl };
}

module _ (page : Page) (first : ℕ) (head : Head) (extra : ℕ) (w count : ℕ) (counts : count ≡ page.item_count - first)
    (width : w ≡ width_by (λ i. get_or page.rows i 0) (number_of head.operator) head.left head.right (kind_number head.kind) count extra) where
  module _ (widths : List ℕ) (out : List Node) (n : Node) (q : Holds widths page out (parts n).items)
      (h : Headed widths out first head extra n) where
    counted : count ≡ length (parts n).items
    counted = omega (arith, q.listed, h.first_is)

    width_is : w ≡ (shape_at widths (out ++ (n ∷ [])) (length out)).width
    width_is =
        width
        ∙ width_same (λ i. get_or page.rows i 0) (λ i. (shape_at widths out i).width) (number_of head.operator) head.left head.right
        (kind_number head.kind) count extra (q.rows_are head.left) (q.rows_are head.right)
        ∙ rw (h.operator, h.left, h.right, h.kind, counted, h.extra_is) (sym (width_by_lem widths (λ i. (shape_at widths out i).width) n))
        ∙ sym (ap (λ (s : Shape). s.width) (shape_last widths out n))

  -- its row is too wide
  pub wide_node : 64 < w → {e : OverLimits} → Pushed page page (Err e) first head extra
  wide_node g = record {
    written = λ widths out n q h f. omega (arith, width_is widths out n q h, f.rows (length out));
    alone = record { items = refl; item_count = refl };
  }

  -- its words
  abbrev pub words : List ℕ
  words = number_of head.operator ∷ head.left ∷ head.right ∷ kind_number head.kind ∷ first ∷ count ∷ []

  abbrev pub written_page : Page
  written_page = record {
    nodes = set page.nodes page.node_count words;
    rows = set page.rows page.node_count w;
    items = page.items;
    node_count = page.node_count + 1;
    item_count = page.item_count;
  }

  -- it is written
  pub node_written : length page.nodes ≡ 256 → length page.rows ≡ 256 → page.node_count < 256 → w ≤ 64
      → Pushed page written_page (Ok page.node_count) first head extra
  node_written long wide few narrow = record {
    written = λ widths out n q h. (held widths out n q h, omega (arith, q.count, longer out n));
    alone = record { items = refl; item_count = refl };
  }
    where
      longer : (out : List Node) (n : Node) → length (out ++ (n ∷ [])) ≡ length out + 1
      longer out n = length-append out (n ∷ [])

      held : (widths : List ℕ) (out : List Node) (n : Node) → Holds widths page out (parts n).items → Headed widths out first head extra n
          → Holds widths written_page (out ++ (n ∷ [])) []
      held widths out n q h = record {
        fits = record {
          nodes = omega (arith, q.count, longer out n);
          items = omega (arith, q.fits.items, all);
          rows = by_row widths out n (λ i x. x ≤ 64) (λ i g. q.fits.rows i) (omega (arith, is)) (λ i g. omega arith);
        };
        count = omega (arith, q.count, longer out n);
        listed = omega (arith, q.listed, all);
        nodes_are =
            ap (each (λ w. w)) (take_more_set page.nodes page.node_count words (omega arith))
            ∙ each_append (λ w. w) (take page.node_count page.nodes) (words ∷ [])
            ∙ rw (append-nil words, q.nodes_are, same, node_snoc 0 out n);
        items_are = q.items_are ∙ sym (items_snoc out n) ∙ sym (append-nil _);
        rows_are = by_row widths out n (λ j x. get_or (set page.rows page.node_count w) j 0 ≡ x) front here behind;
      }
        where
          all : length (all_items (out ++ (n ∷ []))) ≡ length (all_items out) + length (parts n).items
          all = ap length (items_snoc out n) ∙ length-append (all_items out) (parts n).items

          is : w ≡ (shape_at widths (out ++ (n ∷ [])) (length out)).width
          is = width_is widths out n q h

          from : first ≡ 0 + length (all_items out)
          from = omega (arith, h.first_is)

          same : words ≡ (parts n).operator ∷ (parts n).left ∷ (parts n).right ∷ (parts n).kind ∷ (0 + length (all_items out)) ∷ length (parts n).items ∷ []
          same = rw (h.operator, h.left, h.right, h.kind, counted widths out n q h, from)

          front : (i : ℕ) → i < length out → get_or (set page.rows page.node_count w) i 0 ≡ (shape_at widths out i).width
          front i g = get_or-set_other page.rows page.node_count i w 0 (λ t. omega (arith, q.count)) ∙ q.rows_are i

          here : get_or (set page.rows page.node_count w) (length out) 0 ≡ (shape_at widths (out ++ (n ∷ [])) (length out)).width
          here = ap (λ (k : ℕ). get_or (set page.rows page.node_count w) k 0) (sym q.count) ∙ get_or-set_same page.rows page.node_count w 0 (omega arith) ∙ is

          behind : (i : ℕ) → length out < i → get_or (set page.rows page.node_count w) i 0 ≡ 0
          behind i g =
              get_or-set_other page.rows page.node_count i w 0 (λ t. omega (arith, q.count)) ∙ q.rows_are i ∙ ap (λ (s : Shape). s.width) (shape_past widths out i (omega arith))

-- ---- the beginning

-- nothing is written
pub holds_none : (widths : List ℕ) (nodes items : List (List ℕ)) (rows : List ℕ) → ((i : ℕ) → get_or rows i 0 ≡ 0)
    → Holds widths (record { nodes = nodes; rows = rows; items = items; node_count = 0; item_count = 0 }) [] []
holds_none widths nodes items rows f = record {
  fits = record { nodes = omega arith; items = omega arith; rows = λ i. omega arith };
  count = refl;
  listed = refl;
  nodes_are = refl;
  items_are = refl;
  rows_are = f;
}
