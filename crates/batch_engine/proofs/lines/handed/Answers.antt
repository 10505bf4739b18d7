use Rattle.std.proofs.Common.{rules, ◌≡◌, ◌≤◌, refl, sym, ◌∙◌, ap, subst, List, [], length, Some, None, true, false}
use Rattle.std.{specs.List.zip, proofs.lemmas.List.nil_from_length}
use Rattle.batch_recipe.specs.{Conditions.Name, declared.act.TheConstants.MAX_VALUES}
use Rattle.batch_model.specs.Moves.{handed_values}
use Rattle.batch_engine.{specs.Names.handed_of, specs.Names.node_of, proofs.HandedValues.handed_with, proofs.HandedValues.told-handed, proofs.HandedValues.told-few}
use Rattle.batch_engine.proofs.lines.handed.Goals as goal

pub values_of-requires : goal.values_of-requires
values_of-requires c =
    subst (λ (ns : List Name). length ns ≤ MAX_VALUES) (sym c.deref.ensures.value)
    (told-few c.args.recipe.now c.args.node c.in-Some.act.now _ _ _ c.in-Some.ensures.act (λ h. (let bad : true ≡ false = c.in-Some.ensures.past h in cc)) c.in-Runs.is)

pub returns-then-is_empty : goal.returns-then-is_empty
returns-then-is_empty c =
    let e : handed_of (node_of c.args.node c.args.recipe.now) ≡ [] =
    told-handed c.args.recipe.now c.args.node (Some c.in-Some.act.now) c.in-Some.ensures.act (λ h. absurd (let bad : true ≡ false = c.in-Some.ensures.past h in cc))
    ∙ ap handed_with c.in-Runs.is ∙ nil_from_length c.in-Runs.names.items (search rules) in
    rw e refl

pub returns-else-is_empty : goal.returns-else-is_empty
returns-else-is_empty c =
    subst (λ (ns : List Name). zip ns c.values_of.result ≡ handed_values c.args.values.now ns)
    (c.deref.ensures.value ∙ sym (ap handed_with c.in-Runs.is)
    ∙ sym (told-handed c.args.recipe.now c.args.node (Some c.in-Some.act.now) c.in-Some.ensures.act (λ h. absurd (let bad : true ≡ false = c.in-Some.ensures.past h in cc))))
    c.values_of.ensures

pub returns-in-Follows : goal.returns-in-Follows
returns-in-Follows c =
    let e : handed_of (node_of c.args.node c.args.recipe.now) ≡ [] =
    told-handed c.args.recipe.now c.args.node (Some c.in-Some.act.now) c.in-Some.ensures.act (λ h. absurd (let bad : true ≡ false = c.in-Some.ensures.past h in cc))
    ∙ ap handed_with c.in-Follows.is in
    rw e refl

pub returns-in-None : goal.returns-in-None
returns-in-None c =
    let e : handed_of (node_of c.args.node c.args.recipe.now) ≡ [] = told-handed c.args.recipe.now c.args.node None c.in-None.ensures.act (λ h. refl) in
    rw e refl
