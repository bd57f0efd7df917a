-- What the code has written: the words of nodes and items, and the widths of the nodes.
use Rattle.std.specs.Prelude.{◌≡◌, cond, ◌||◌, List, [], ◌∷◌, ◌++◌, ℕ, suc, ◌+◌, ◌≤◌, ◌<◌, eqb, length, get_or, take, Option, Some, None, Result, MatchResult}
use Rattle.algebra.specs.Lists.{each}
use Rattle.algebra.specs.Plan.{Node, scan, select, compute, project, join, group, groupjoin, dependent}
use Rattle.algebra.specs.Columns.{shape_at}
use Rattle.algebra.specs.Domains.{around}
use Rattle.algebra.specs.Rewriting.{emit, dropping}
use Rattle.plan.specs.Codes.{number_of, meant_kind}
use Rattle.plan.specs.Encoding.{kind_word, parts, node_words, all_items}
use Rattle.plan.specs.declared.operator.Operator.{Operator}
use Rattle.plan.specs.declared.kinds.JoinKind.{JoinKind}
use Rattle.pages.specs.declared.page.Page.{Page}
use Rattle.pages.specs.declared.page.OverLimits.{OverLimits}
use Rattle.pages.specs.declared.page.Head.{Head}

-- the nodes out and then the items xs of a next node are within the limits
pub record Fits (widths : List ℕ) (out : List Node) (xs : List (List ℕ)) : Type 0 where
  pub nodes : length out ≤ 256
  pub items : length (all_items out) + length xs ≤ 2000
  pub rows : (i : ℕ) → (shape_at widths out i).width ≤ 64

-- the page has the nodes out, their items and then the items xs of a next node
pub record Holds (widths : List ℕ) (page : Page) (out : List Node) (xs : List (List ℕ)) : Type 0 where
  pub fits : Fits widths out xs
  pub count : page.node_count ≡ length out
  pub listed : page.item_count ≡ length (all_items out) + length xs
  pub nodes_are : each (λ w. w) (take page.node_count page.nodes) ≡ node_words 0 out
  pub items_are : take page.item_count page.items ≡ all_items out ++ xs
  pub rows_are : (i : ℕ) → get_or page.rows i 0 ≡ (shape_at widths out i).width

-- all but the items is as it was
pub record ItemsAlone (page page' : Page) : Type 0 where
  pub nodes : page'.nodes ≡ page.nodes
  pub rows : page'.rows ≡ page.rows
  pub node_count : page'.node_count ≡ page.node_count

-- the page has got more items of the next node
pub record Wrote (page page' : Page) (new : List (List ℕ)) : Type 0 where
  pub holds : (widths : List ℕ) (out : List Node) (xs : List (List ℕ)) → Holds widths page out xs → Holds widths page' out (xs ++ new)
  pub alone : ItemsAlone page page'

-- they would be too much
pub record Missed (page page' : Page) (new : List (List ℕ)) : Type 0 where
  pub over : (widths : List ℕ) (out : List Node) (xs : List (List ℕ)) → Holds widths page out xs → Fits widths out (xs ++ new) → ⊥
  pub alone : ItemsAlone page page'

abbrev pub Added : Page → Page → Result Unit OverLimits → List (List ℕ) → Type 0
Added page page' result new = MatchResult result (λ _. Wrote page page' new) (λ _. Missed page page' new)

-- the page has the nodes out, of which the result is the last, or it would be too much
abbrev pub Leaves : List ℕ → Page → List Node → Result ℕ OverLimits → Type 0
Leaves widths page out result =
    MatchResult result (λ number. Holds widths page out [] × (suc number ≡ length out)) (λ _. Fits widths out [] → ⊥)

-- ---- one node more

-- a node without its items
abbrev pub head_of : Operator → ℕ → ℕ → Option JoinKind → Head
head_of o l r k = record { operator = o; left = l; right = r; kind = k }

-- the word of its kind, 0 where it has none
abbrev pub kind_number : Option JoinKind → ℕ
kind_number None = 0
kind_number (Some k) = kind_word (meant_kind k)

-- the width of a node with operator o, inputs l and r, kind k and count items; extra is a scan's table width, a groupjoin's number of aggregates
unfoldable pub width_by : (ℕ → ℕ) → ℕ → ℕ → ℕ → ℕ → ℕ → ℕ → ℕ
width_by at o l r k count extra =
    cond (eqb o 1) extra
    (cond (eqb o 2) (at l)
    (cond (eqb o 3) (at l + 1)
    (cond (eqb o 4 || eqb o 6) count
    (cond (eqb o 7) (at l + extra)
    (cond (eqb k 2 || eqb k 3) (at l) (at l + at r))))))

abbrev pub extra_of : List ℕ → Node → ℕ
extra_of widths (scan t) = get_or widths t 0
extra_of widths (select cs i) = 0
extra_of widths (compute c i) = 0
extra_of widths (project ps i) = 0
extra_of widths (join k cs l r) = 0
extra_of widths (group ks gs i) = 0
extra_of widths (groupjoin cs gs l r) = length gs
extra_of widths (dependent k cs l r) = 0

-- node n is written with this head, behind out; first is where its items begin
pub record Headed (widths : List ℕ) (out : List Node) (first : ℕ) (head : Head) (extra : ℕ) (n : Node) : Type 0 where
  pub operator : number_of head.operator ≡ (parts n).operator
  pub left : head.left ≡ (parts n).left
  pub right : head.right ≡ (parts n).right
  pub kind : kind_number head.kind ≡ (parts n).kind
  pub extra_is : extra ≡ extra_of widths n
  pub first_is : first ≡ length (all_items out)

-- all but the nodes and their widths is as it was
pub record NodesAlone (page page' : Page) : Type 0 where
  pub items : page'.items ≡ page.items
  pub item_count : page'.item_count ≡ page.item_count

pub record Pushed (page page' : Page) (result : Result ℕ OverLimits) (first : ℕ) (head : Head) (extra : ℕ) : Type 0 where
  pub written : (widths : List ℕ) (out : List Node) (n : Node) → Holds widths page out (parts n).items → Headed widths out first head extra n
      → Leaves widths page' (out ++ (n ∷ [])) result
  pub alone : NodesAlone page page'

-- ---- what has been written before a call and after it

-- the nodes out have become f out
pub record Grows (page page' : Page) (result : Result ℕ OverLimits) (f : List Node → List Node) : Type 0 where
  pub written : (widths : List ℕ) (out : List Node) → Holds widths page out [] → Leaves widths page' (f out) result

-- node i is there and has width w
pub record Stands (widths : List ℕ) (out : List Node) (i w : ℕ) : Type 0 where
  pub inside : i < length out
  pub width : (shape_at widths out i).width ≡ w

-- the same over the widths of one plan's tables
pub record GrowsOver (widths : List ℕ) (page page' : Page) (result : Result ℕ OverLimits) (f : List Node → List Node) : Type 0 where
  pub written : (out : List Node) → Holds widths page out [] → Leaves widths page' (f out) result

-- the join at i, which is the last node, has its project behind it, where its kind has one
pub record Drops (k : JoinKind) (n m w i : ℕ) (page page' : Page) (result : Result ℕ OverLimits) : Type 0 where
  pub written : (widths : List ℕ) (out : List Node) (x : Node) → Holds widths page (out ++ (x ∷ [])) [] → i ≡ length out
      → Leaves widths page' (dropping (meant_kind k) (around n m w) (emit x out)).out result

-- ---- whole plans

-- a copy of node n of the plan, its inputs at their images; a dependent join becomes the join of its kind
abbrev pub copy_of : (ℕ → ℕ) → Node → Node
copy_of images (scan t) = scan t
copy_of images (select cs i) = select cs (images i)
copy_of images (compute c i) = compute c (images i)
copy_of images (project ps i) = project ps (images i)
copy_of images (join k cs l r) = join k cs (images l) (images r)
copy_of images (group ks gs i) = group ks gs (images i)
copy_of images (groupjoin cs gs l r) = groupjoin cs gs (images l) (images r)
copy_of images (dependent k cs l r) = join k cs (images l) (images r)

-- the page has the whole plan ns, or it is over a limit
abbrev pub Finished : List ℕ → List Node → Page → Result Unit OverLimits → Type 0
Finished widths ns page result = MatchResult result (λ _. Holds widths page ns []) (λ _. Fits widths ns [] → ⊥)
