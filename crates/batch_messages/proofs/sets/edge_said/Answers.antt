use Rattle.std.proofs.Common.{◌≡◌, ◌++◌, IfOk, codes, refl, string_bytes}
use Rattle.std.proofs.lemmas.Result.{IfOk-weaker}
use Rattle.batch_messages.specs.CircleSentence.{IsEdgeTold, ToldEdge}
use Rattle.batch_messages.proofs.sets.edge_said.Goals as goal

pub returns : goal.returns
returns c =
    let holder = string_bytes c.in_ok-holder.holder in
    let asker = string_bytes c.in_ok-asker.asker in
    let said : IfOk c.format.result (λ said. string_bytes said ≡ codes "; " ++ (c.recipe_name-name.result.now ++ (codes " holds "
    ++ (c.resource_name-earlier.result.now ++ (holder ++ (codes " and asks for " ++ (c.resource_name-later.result.now ++ (codes " in "
    ++ (c.act_name-act.result.now ++ asker))))))))) = c.format.ensures.ok in
    let told : ToldEdge = record { edge = c.args.edge; holder = holder; asker = asker } in
    IfOk-weaker c.format.result _ (λ text. IsEdgeTold c.args.set.cell.now c.args.set.recipes.now c.args.edge (string_bytes text))
    (λ text is. record { told = told; of = refl; words = rw (← c.recipe_name-name.ensures, ← c.resource_name-earlier.ensures, ← c.resource_name-later.ensures, ← c.act_name-act.ensures) is })
    said
