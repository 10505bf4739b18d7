use Rattle.std.proofs.Common.{ap, sym, ◌∙◌, length, nat_eq, option_copied}
use Rattle.batch_recipe.specs.Conditions.{same_name}
use Rattle.batch_engine.proofs.RolePairs.{first-given, given_name, no-bytes}
use Rattle.batch_engine.proofs.bindings.gives.Goals as goal

pub returns-in-Some : goal.returns-in-Some
returns-in-Some c =
    c.eq.ensures
    ∙ ap (same_name c.args.unit.now) (sym (first-given c.args.pairs.now c.args.role.now ∙ ap given_name (sym c.pair_of.ensures ∙ ap option_copied c.in-Some.is)))

pub returns-in-None : goal.returns-in-None
returns-in-None c =
    c.is_empty.ensures ∙ ap (λ z. nat_eq (length z) 0) c.text.ensures.value ∙ no-bytes c.args.unit.now
    ∙ ap (same_name c.args.unit.now) (sym (first-given c.args.pairs.now c.args.role.now ∙ ap given_name (sym c.pair_of.ensures ∙ ap option_copied c.in-None.is)))
