-- Where rows stand in the nodes written so far.
use mathlib.Core.Path.{◌∙◌, ◌≡◌, ap, refl, sym}
use mathlib.Core.Bool.{true}
use mathlib.Core.List.{List, [], ◌++◌, ◌∷◌, append_assoc, append-nil, map}
use Prim.Native.Nat.{◌+◌, ◌<◌, suc, ℕ}
use native.Mathlib.Omega.{arith}
use lib.ListN.{get_or, length, length-append, length-map}
use Rattle.algebra.specs.Lists.{each, is_empty}
use Rattle.algebra.specs.Value.{Row}
use Rattle.algebra.specs.Plan.{Conjunct, Kind, Node, anti, inner, join, join_width, left_outer, project, semi}
use Rattle.algebra.specs.Operators.{join_rows, picked}
use Rattle.algebra.specs.Meaning.{Database, Result, empty, node_result, result_of}
use Rattle.algebra.specs.Columns.{conjunct_reads}
use Rattle.algebra.specs.Domains.{around}
use Rattle.algebra.specs.Rewriting.{Placed, dropping, emit}
use Rattle.algebra.specs.Statements.{Wide}
use Rattle.algebra.proofs.Lists.Entries.{entry_before, entry_last}
use Rattle.algebra.proofs.Columns.Picked.{length_upto}
use Rattle.algebra.proofs.Under.Joins.{dropped}
use Rattle.algebra.proofs.Tables.Even.{result_even}
use Rattle.algebra.proofs.Tables.Tidy.{Ordered, Tidy, one_more}

-- the nodes of one list are the first of another
pub record Extends (out more : List Node) : Type 0 where
  pub rest : List Node
  pub is : more ≡ out ++ rest
  pub keeps : Ordered out → Ordered more

pub extends_refl : (out : List Node) → Extends out out
extends_refl out = record { rest = []; is = sym (append-nil out); keeps = λ t. t }

pub extends_trans : {a b c : List Node} → Extends a b → Extends b c → Extends a c
extends_trans {a} f g = record { rest = f.rest ++ g.rest; is = g.is ∙ rw f.is (append_assoc a f.rest g.rest); keeps = λ t. g.keeps (f.keeps t) }

pub extends_one : (out : List Node) (n : Node) → Tidy (length out) n → Extends out (out ++ (n ∷ []))
extends_one out n h = record { rest = n ∷ []; is = refl; keeps = λ t. one_more out n t h }

around_length : (n m w : ℕ) → length (around n m w) ≡ n + w
around_length n m w = simp (length-append, length-map, length_upto)

module _ (widths : List ℕ) (db : Database) where
  -- node i has width w (the && rows) rs
  pub record Stands (out : List Node) (i w : ℕ) (rs : List Row) : Type 0 where
    pub inside : i < length out
    pub width : (result_of widths db out i).width ≡ w
    pub rows : (result_of widths db out i).rows [] ≡ rs

  -- what a step has written: more nodes, of which the last is the one meant
  pub record Wrote (out : List Node) (x : Placed) (w : ℕ) (rs : List Row) : Type 0 where
    pub grows : Extends out x.out
    pub last : suc x.at ≡ length x.out
    pub stands : Stands x.out x.at w rs

module _ {widths : List ℕ} {db : Database} where
  pub stands_extends : {out more : List Node} {i w : ℕ} {rs : List Row} → Extends out more → Stands widths db out i w rs → Stands widths db more i w rs
  stands_extends {out} {more} {i} {w} {rs} e s = rw e.is (record {
    inside = rw length-append (omega (arith, s.inside));
    width = ap (λ (r : Result). r.width) (entry_before empty (node_result widths db) out e.rest i s.inside) ∙ s.width;
    rows = ap (λ (r : Result). r.rows []) (entry_before empty (node_result widths db) out e.rest i s.inside) ∙ s.rows;
  })

  pub wrote : (out : List Node) (n : Node) (w : ℕ) (rs : List Row) → Tidy (length out) n → (node_result widths db (result_of widths db out) n).width ≡ w → (node_result widths db (result_of widths db out) n).rows [] ≡ rs
      → Wrote widths db out (emit n out) w rs
  wrote out n w rs h ew er = record {
    grows = extends_one out n h;
    last = rw length-append (omega arith);
    stands = record {
      inside = rw length-append (omega arith);
      width = ap (λ (r : Result). r.width) (entry_last empty (node_result widths db) out n) ∙ ew;
      rows = ap (λ (r : Result). r.rows []) (entry_last empty (node_result widths db) out n) ∙ er;
    };
  }

  pub wrote_after : {out more : List Node} {x : Placed} {w : ℕ} {rs : List Row} → Extends out more → Wrote widths db more x w rs → Wrote widths db out x w rs
  wrote_after e s = record { grows = extends_trans e s.grows; last = s.last; stands = s.stands }

  wrote_project : (n m w v : ℕ) (out : List Node) (x : Placed) (rs : List Row) → Wrote widths db out x v rs
      → Wrote widths db out (emit (project (around n m w) x.at) x.out) (n + w) (map (picked (around n m w)) rs)
  wrote_project n m w v out x rs s = wrote_after s.grows (wrote x.out _ _ _ s.stands.inside (around_length n m w) (rw s.stands.rows))

  -- a join, then the project that drops the columns between
  pub wrote_dropping : (k : Kind) (n m w : ℕ) (out : List Node) (x : Placed) (rs : List Row) → Wrote widths db out x (join_width k n (m + w)) rs
      → Wrote widths db out (dropping k (around n m w) x) (join_width k n w) (dropped k (around n m w) rs)
  wrote_dropping inner n m w out x rs s = wrote_project n m w _ out x rs s
  wrote_dropping semi n m w out x rs s = s
  wrote_dropping anti n m w out x rs s = s
  wrote_dropping left_outer n m w out x rs s = wrote_project n m w _ out x rs s

  pub wrote_join : (k : Kind) (cs : List Conjunct) (n m w i j : ℕ) (out : List Node) (xs ys : List Row) → is_empty (each conjunct_reads cs) ≡ true → Stands widths db out i n xs → Stands widths db out j (m + w) ys
      → Wrote widths db out (dropping k (around n m w) (emit (join k cs i j) out)) (join_width k n w) (dropped k (around n m w) (join_rows k (m + w) [] cs xs (λ z. ys)))
  wrote_join k cs n m w i j out xs ys e s t =
      wrote_dropping k n m w out _ _ (wrote out (join k cs i j) _ _ (s.inside, t.inside, e) (rw (s.width, t.width)) (rw (s.rows, t.rows, t.width)))

  pub wrote_rows : {out : List Node} {x : Placed} {w : ℕ} {rs ss : List Row} → rs ≡ ss → Wrote widths db out x w rs → Wrote widths db out x w ss
  wrote_rows e s = rw e at s

  pub wrote_width : {out : List Node} {x : Placed} {w v : ℕ} {rs : List Row} → w ≡ v → Wrote widths db out x w rs → Wrote widths db out x v rs
  wrote_width e s = rw e at s

  module _ (sound : (t : ℕ) → Wide (get_or widths t 0) (get_or db t [])) where
    pub stands_wide : {out : List Node} {i w : ℕ} {rs : List Row} → Stands widths db out i w rs → Wide w rs
    stands_wide {out} {i} s = rw (s.width, s.rows) at (result_even widths db sound out i [])
