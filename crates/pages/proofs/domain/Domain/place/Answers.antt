use mathlib.Core.Path.{◌≡◌, refl, sym, ap, ◌∙◌}
use Prim.Native.Nat.{◌+◌}
use native.Mathlib.Omega.{arith}
use lib.ListN.{length}
use borrow.Author.Rules.{rules}
use Rattle.pages.specs.declared.domain.Level.{Level}
use Rattle.pages.specs.Sets.{rank}
use Rattle.pages.proofs.Laws.Domains.{level_at, unread, read, passed, passed_all}
use Rattle.pages.proofs.domain.Domain.place.Goals as goal

pub returns-in_default : goal.returns-in_default
returns-in_default c = let size : length c.args.self.now.levels ≡ 8 = search rules in
    unread c.args.self.now _ _ (ap (λ (x : Level). x.base) (level_at _ _ _ c.requires.0 size refl) ∙ c.in_default.is)

pub loop-l-init : goal.loop-l-init
loop-l-init c = let size : length c.args.self.now.levels ≡ 8 = search rules in
    read c.args.self.now _ c.args.position _ refl (ap (λ (x : Level). x.base) (level_at _ _ _ c.requires.0 size refl) ∙ c.in-Some.is)
    (c.rank-place.ensures.value
    ∙ ap (λ (x : Level). rank x.columns (c.in-Some.base + c.args.position)) (sym (level_at _ _ _ c.requires.0 size refl)))

pub loop-l-preserved : goal.loop-l-preserved
loop-l-preserved c = let size : length c.args.self.now.levels ≡ 8 = search rules in
    passed _ _ _ _ c.loop-l.invariant c.loop-l-test.true (level_at _ _ _ (omega arith) size refl) c.rank-place-in-loop-l.ensures.value

pub returns : goal.returns
returns c = passed_all _ _ _ c.loop-l.invariant c.loop-l-test.false
