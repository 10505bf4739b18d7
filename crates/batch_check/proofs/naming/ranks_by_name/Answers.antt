use Rattle.std.proofs.Common.{◌≡◌, ◌<◌, ◌≤◌, ◌∙◌, length, subst, refl, IsPermutation, zip}
use Rattle.batch_cell.specs.LookUps.{resources_of}
use Rattle.batch_check.{specs.ByName.resource_name_in, proofs.Names.name_in-found, proofs.Entries.zip_more, proofs.Entries.zip_all, proofs.Entries.IsCertificateOf-sorted}
use Rattle.batch_check.proofs.naming.ranks_by_name.Goals as goal

pub loop-resource-preserved : goal.loop-resource-preserved
loop-resource-preserved c =
    let below : c.loop-resource.resource < length (resources_of c.args.cell.now) = subst (λ n. c.loop-resource.resource < n) c.resources-resource-end.ensures c.loop-resource-test.true in
    let name : resource_name_in c.args.cell.now c.loop-resource.resource ≡ c.name_of.result.now = name_in-found c.args.cell.now c.loop-resource.resource c.name_of.result.now c.name_of.ensures in
    rw (c.in_ok-push.ensures.items, c.loop-resource.invariant, c.in_ok-name.ensures, c.from.ensures, zip_more (resources_of c.args.cell.now) c.args.ranks.now c.loop-resource.resource c.requires below, name) refl

pub returns : goal.returns
returns c =
    let moved : IsPermutation (zip (resources_of c.args.cell.now) c.args.ranks.now) c.sort_unstable.new.self.items =
    subst (λ es. IsPermutation es c.sort_unstable.new.self.items)
    (c.loop-resource.invariant ∙ zip_all (resources_of c.args.cell.now) c.args.ranks.now c.loop-resource.resource c.requires (subst (λ n. n ≤ c.loop-resource.resource) c.resources-resource-end.ensures c.loop-resource-test.false)) c.sort_unstable.ensures.permutation in
    IsCertificateOf-sorted c.args.cell.now c.args.ranks.now c.sort_unstable.new.self.items c.requires moved c.sort_unstable.ensures.sorted
