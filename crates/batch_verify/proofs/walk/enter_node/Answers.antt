use Rattle.std.proofs.Common.{◌≡◌, Some, sym, ap, ◌∙◌, subst, option_copied}
use Rattle.batch_recipe.specs.{Expanding.needs_with, declared.act.Act.Act}
use Rattle.batch_model.specs.Cleared.{Level}
use Rattle.batch_verify.specs.{Asking.asks_of, Asking.asks_on, Walking.IsEntered, Walking.ranks_on}
use Rattle.batch_verify.proofs.walk.enter_node.Goals as goal

some_is : (a b : Act) → Some a ≡ Some b → a ≡ b
some_is a b e = cc

pub returns-in-Some-clause-act : goal.returns-in-Some-clause-act
returns-in-Some-clause-act c = λ a is s asked.
    let site = c.args.site.now in
    let same = some_is c.in-Some.act.now a (sym (ap option_copied c.in-Some.is) ∙ (c.act.ensures ∙ is)) in
    subst (λ (x : Act). asks_on site c.needs-needs.result.now ≡ asks_of site.cell.now (needs_with s x) → (level : Level) → IsEntered site.cell.now s (ranks_on site) c.args.fault level c.args.path x c.enter.result) same
    (c.enter.ensures.rules s) (ap (asks_on site) c.needs-needs.ensures ∙ asked)
