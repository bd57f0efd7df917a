-- Lines of words: what is written is read, and what is read was written.
use mathlib.Core.Path.{◌≡◌, refl, sym, ap, ◌∙◌, subst}
use mathlib.Core.Bool.{Bool, true, false, cond, ◌&&◌}
use mathlib.Core.List.{List, [], ◌∷◌, ◌++◌, append_assoc, append-nil}
use Prim.Native.Nat.{ℕ, zero, suc, ◌≤◌}
use native.Mathlib.Omega.{arith}
use lib.Dec.{eqb}
use lib.ListN.{length}
use lib.Seq.{take_at, drop_at}
use borrow.Author.Tests.{ne_eqb}
use Rattle.algebra.specs.Lists.{is_empty}
use Rattle.plan.specs.Items.{between}
use Rattle.text.specs.declared.form.Form.{Form}
use Rattle.text.specs.Reading.{Counts, Front, found, bad, and_then, constant_next, word_in, field_in, words_in, line_in, head_in, Lines, right, wrong, behind, line_then, lines_in}
use Rattle.text.specs.Numbers.{decimal}
use Rattle.text.specs.Steps.{number, fields_text, line_text, lines_text}
use Rattle.text.proofs.Laws.Fits.{WordsFit, none_left, one_more, BodyFits, no_row, one_row, Limited}
use Rattle.text.proofs.Laws.Fields.{word_read, word_is, field_read, field_is}

-- ---- fronts

-- what was found behind something was found behind something that was found
pub record Found {A B : Type 0} (f : Front A) (next : A → List ℕ → Front B) (y : B) (rest : List ℕ) : Type 0 where
  pub first : A
  pub behind_first : List ℕ
  pub is : f ≡ found first behind_first
  pub then : next first behind_first ≡ found y rest

pub found_first : {A B : Type 0} (f : Front A) (next : A → List ℕ → Front B) (y : B) (rest : List ℕ) → and_then f next ≡ found y rest → Found f next y rest
found_first bad next y rest e = let z : ◌≡◌ {A = ℕ} 0 1 = cc in absurd (omega arith)
found_first (found x bs) next y rest e = record { first = x; behind_first = bs; is = refl; then = e }

-- ---- the byte behind a word

-- the reader counts what is left, the writer sees it
ending : (ws : List ℕ) → ◌≡◌ {A = ℕ} (cond (eqb (length ws) 0) 10 32) (cond (is_empty ws) 10 32)
ending [] = refl
ending (w ∷ ws) = rw (ne_eqb (suc (length ws)) 0 (λ q. omega arith))

-- it is no digit
no_digit : (b : Bool) → between 48 57 (cond b 10 32) ≡ false
no_digit true = refl
no_digit false = refl

-- ---- the words of a line

pub words_read : (form : Form) (xs ws rest : List ℕ) → WordsFit form xs ws
    → words_in form (length ws) xs (fields_text form.item xs ws ++ rest) ≡ found (xs ++ ws) rest
unfolding words_in fields_text
words_read form xs ws rest none_left = rw (append-nil xs)
words_read form xs ws rest (one_more {w} {ws = vs} a t) =
    let c : Bool = form.item && constant_next xs in
    let e : ℕ = cond (is_empty vs) 10 32 in
    let more : List ℕ = fields_text form.item (xs ++ (w ∷ [])) vs ++ rest in
    rw (
      append_assoc (number c w) (e ∷ fields_text form.item (xs ++ (w ∷ [])) vs) rest,
      ending vs,
      field_read form xs e w more (no_digit (is_empty vs)) a,
      words_read form (xs ++ (w ∷ [])) vs rest t,
      append_assoc xs (w ∷ []) vs,
    )

-- the words that were read, so many of them
pub record WordsAre (form : Form) (k : ℕ) (xs bs ys rest : List ℕ) : Type 0 where
  pub more : List ℕ
  pub all : ys ≡ xs ++ more
  pub many : length more ≡ k
  pub fit : WordsFit form xs more
  pub written : bs ≡ fields_text form.item xs more ++ rest

-- a word in front of the text of the words behind it
joined : (item : Bool) (xs : List ℕ) (w : ℕ) (vs rest : List ℕ) (k : ℕ) (bs : List ℕ) → length vs ≡ k → bs ≡ fields_text item (xs ++ (w ∷ [])) vs ++ rest
    → number (item && constant_next xs) w ++ (cond (eqb k 0) 10 32 ∷ bs) ≡ fields_text item xs (w ∷ vs) ++ rest
unfolding fields_text
joined item xs w vs rest k bs l q = rw (sym l, q, ending vs) (sym (append_assoc (number (item && constant_next xs) w) _ rest))

pub words_are : (form : Form) (k : ℕ) (xs bs ys rest : List ℕ) → words_in form k xs bs ≡ found ys rest → WordsAre form k xs bs ys rest
unfolding words_in fields_text
words_are form zero xs bs ys rest q =
    let a : xs ≡ ys = cc in
    let b : bs ≡ rest = cc in
    record { more = []; all = sym a ∙ sym (append-nil xs); many = refl; fit = none_left; written = b }
words_are form (suc k) xs bs ys rest q =
    let e : ℕ = cond (eqb k 0) 10 32 in
    let f = found_first (field_in form xs e bs) (λ w ds. words_in form k (xs ++ (w ∷ [])) ds) ys rest q in
    let w : ℕ = f.first in
    let a = field_is form xs e bs w f.behind_first f.is in
    let r = words_are form k (xs ++ (w ∷ [])) f.behind_first ys rest f.then in
    record {
      more = w ∷ r.more;
      all = r.all ∙ append_assoc xs (w ∷ []) r.more;
      many = ap suc r.many;
      fit = one_more a.0 r.fit;
      written = a.1 ∙ joined form.item xs w r.more rest k f.behind_first r.many r.written;
    }

-- ---- a line

pub line_read : (form : Form) (xs rest : List ℕ) → length xs ≡ form.count → WordsFit form [] xs → line_in form (line_text form.item xs ++ rest) ≡ found xs rest
line_read form xs rest n f = rw n at (words_read form [] xs rest f)

pub record LineIs (form : Form) (bs xs rest : List ℕ) : Type 0 where
  pub many : length xs ≡ form.count
  pub fit : WordsFit form [] xs
  pub written : bs ≡ line_text form.item xs ++ rest

pub line_is : (form : Form) (bs xs rest : List ℕ) → line_in form bs ≡ found xs rest → LineIs form bs xs rest
line_is form bs xs rest q =
    let r = words_are form form.count [] bs xs rest q in
    let e : xs ≡ r.more = r.all in
    record { many = rw e r.many; fit = rw e r.fit; written = rw e r.written }

-- ---- the lines behind the first

pub line_first : (form : Form) (fs : List Form) (xs ws : List ℕ) → length xs ≡ form.count
    → lines_text (form ∷ fs) (xs ++ ws) ≡ line_text form.item xs ++ lines_text fs ws
unfolding lines_text
line_first form fs xs ws n = rw (take_at xs ws form.count n, drop_at xs ws form.count n)

pub body_read : (fs : List Form) (l : ℕ) (ws rest : List ℕ) → BodyFits fs ws → lines_in fs l (lines_text fs ws ++ rest) ≡ right ws rest
unfolding lines_in lines_text
body_read fs l ws rest no_row = refl
body_read fs l ws rest (one_row {form} {fs = more} {xs} {ws = vs} n f t) =
    rw (
      take_at xs vs form.count n,
      drop_at xs vs form.count n,
      append_assoc (line_text form.item xs) (lines_text more vs) rest,
      line_read form xs (lines_text more vs ++ rest) n f,
      body_read more (suc l) vs rest t,
    )

-- a body, and the text of its lines
abbrev pub BodyIs : List Form → List ℕ → List ℕ → List ℕ → Type 0
BodyIs fs bs ws rest = BodyFits fs ws × (bs ≡ lines_text fs ws ++ rest)

-- a line in front of a body
one_before : (form : Form) (fs : List Form) (bs xs ds ws rest : List ℕ) → LineIs form bs xs ds → BodyIs fs ds ws rest → BodyIs (form ∷ fs) bs (xs ++ ws) rest
one_before form fs bs xs ds ws rest f t = (
  one_row f.many f.fit t.0,
  rw (line_first form fs xs ws f.many, append_assoc (line_text form.item xs) (lines_text fs ws) rest, sym t.1) f.written,
)

pub body_is : (fs : List Form) (l : ℕ) (bs ws rest : List ℕ) → lines_in fs l bs ≡ right ws rest → BodyIs fs bs ws rest
unfolding lines_in lines_text
body_is [] l bs ws rest q =
    let a : [] ≡ ws = cc in
    (rw (sym a) no_row, cc)
body_is (form ∷ fs) l bs ws rest q = go (line_in form bs) refl q (body_is fs (suc l))
  where
    next : (xs ds : List ℕ) → line_in form bs ≡ found xs ds → (r : Lines) → lines_in fs (suc l) ds ≡ r → behind xs r ≡ right ws rest
        → ((ds vs more : List ℕ) → lines_in fs (suc l) ds ≡ right vs more → BodyIs fs ds vs more) → BodyIs (form ∷ fs) bs ws rest
    next xs ds e (wrong k) g h left = let z : ◌≡◌ {A = ℕ} 0 1 = cc in absurd (omega arith)
    next xs ds e (right vs more) g h left =
        let a : xs ++ vs ≡ ws = cc in
        let b : more ≡ rest = cc in
        rw (sym a, sym b) (one_before form fs bs xs ds vs more (line_is form bs xs ds e) (left ds vs more g))

    go : (f : Front (List ℕ)) → line_in form bs ≡ f → line_then l f (λ ds. lines_in fs (suc l) ds) ≡ right ws rest
        → ((ds vs more : List ℕ) → lines_in fs (suc l) ds ≡ right vs more → BodyIs fs ds vs more) → BodyIs (form ∷ fs) bs ws rest
    go bad e h left = let z : ◌≡◌ {A = ℕ} 0 1 = cc in absurd (omega arith)
    go (found xs ds) e h left = next xs ds e (lines_in fs (suc l) ds) refl h left

-- ---- the first line

-- the first line of a text
abbrev pub head_text : Counts → List ℕ
head_text s = line_text false (s.tables ∷ s.nodes ∷ s.items ∷ [])

pub head_read : (s : Counts) (rest : List ℕ) → Limited s → head_in (line_text false (s.tables ∷ s.nodes ∷ s.items ∷ []) ++ rest) ≡ found s rest
unfolding head_in fields_text
head_read s rest f =
    let T : List ℕ = decimal s.tables in
    let N : List ℕ = decimal s.nodes in
    let I : List ℕ = decimal s.items in
    let behind_n : List ℕ = I ++ (10 ∷ rest) in
    let behind_t : List ℕ = N ++ (32 ∷ behind_n) in
    let e : (T ++ (32 ∷ (N ++ (32 ∷ (I ++ (10 ∷ [])))))) ++ rest ≡ T ++ (32 ∷ behind_t) = simp append_assoc in
    rw (
      e,
      word_read 1 16 32 s.tables behind_t refl f.tables_some f.tables_few,
      word_read 1 256 32 s.nodes behind_n refl f.nodes_some f.nodes_few,
      word_read 0 2000 10 s.items rest refl (omega arith) f.items_few,
    )

-- three numbers, one behind the other
module _ (bs ts ns is : List ℕ) (t n i : ℕ) (s : Counts) (rest : List ℕ) (q : found (record { tables = t; nodes = n; items = i }) is ≡ found s rest) where
  three_are : (1 ≤ t) × (t ≤ 16) × (bs ≡ decimal t ++ (32 ∷ ts)) → (1 ≤ n) × (n ≤ 256) × (ts ≡ decimal n ++ (32 ∷ ns))
      → (0 ≤ i) × (i ≤ 2000) × (ns ≡ decimal i ++ (10 ∷ is))
      → Limited s × (bs ≡ line_text false (s.tables ∷ s.nodes ∷ s.items ∷ []) ++ rest)
  unfolding fields_text
  three_are a b c =
      let e : record { tables = t; nodes = n; items = i } ≡ s = cc in
      let f : is ≡ rest = cc in
      let r : Limited (record { tables = t; nodes = n; items = i }) × (bs ≡ line_text false (t ∷ n ∷ i ∷ []) ++ is) = (
        record { tables_some = a.0; tables_few = a.1; nodes_some = b.0; nodes_few = b.1; items_few = c.1 },
        rw (a.2, b.2, c.2) (simp append_assoc),
      ) in
      subst (λ (x : Counts). Limited x × (bs ≡ line_text false (x.tables ∷ x.nodes ∷ x.items ∷ []) ++ rest)) e (rw f at r)

-- what is read behind T, and behind N
abbrev behind_nodes : ℕ → ℕ → List ℕ → Front Counts
behind_nodes t n ds = and_then (word_in 0 2000 10 ds) (λ i rest. found (record { tables = t; nodes = n; items = i }) rest)

abbrev behind_tables : ℕ → List ℕ → Front Counts
behind_tables t ds = and_then (word_in 1 256 32 ds) (behind_nodes t)

pub head_is : (bs : List ℕ) (s : Counts) (rest : List ℕ) → head_in bs ≡ found s rest
    → Limited s × (bs ≡ line_text false (s.tables ∷ s.nodes ∷ s.items ∷ []) ++ rest)
unfolding head_in
head_is bs s rest q =
    let t = found_first (word_in 1 16 32 bs) behind_tables s rest q in
    let n = found_first (word_in 1 256 32 t.behind_first) (behind_nodes t.first) s rest t.then in
    let i = found_first (word_in 0 2000 10 n.behind_first) (λ i ds. found (record { tables = t.first; nodes = n.first; items = i }) ds) s rest n.then in
    three_are bs t.behind_first n.behind_first i.behind_first t.first n.first i.first s rest i.then
    (word_is 1 16 32 bs t.first t.behind_first t.is)
    (word_is 1 256 32 t.behind_first n.first n.behind_first n.is)
    (word_is 0 2000 10 n.behind_first i.first i.behind_first i.is)
