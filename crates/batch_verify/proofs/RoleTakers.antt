-- Nobody is no resource, by number, and a role has no more candidates than there are units.
use Rattle.std.proofs.Common.{◌≡◌, ℕ, ◌≤◌, max, List, length, position, None, ◌∙◌, arith}
use Rattle.std.proofs.{Math.Nat.le-max_left, Math.Nat.le-max_right, Math.Nat.max-le, lemmas.List.length-map, lemmas.List.Sums.length-filter, lemmas.List.Sums.count_by-le-length}
use Rattle.batch_cell.specs.LookUps.{units_of_class, is_of_class}
use Rattle.batch_cell.specs.declared.cell.Cell as equipment
use Rattle.batch_recipe.specs.Conditions.{Name, same_name}
use Rattle.batch_verify.{specs.Bindings.nobody, proofs.ListLookups.found_is_among, proofs.CertificateEntries.is_none-some, proofs.NumberedBindings.nobody-apart}

pub max_joined : (a b c : ℕ) → max (max a b) c ≡ max a (max b c)
max_joined a b c = grind (arith, le-max_left a (max b c), le-max_left b c, le-max_right a (max b c), le-max_right b c, le-max_left a b, le-max_left (max a b) c, le-max_right a b, le-max_right (max a b) c, max-le)

-- nobody is no resource, by number
pub nobody_unknown : (names : List Name) → position (same_name (nobody names)) names ≡ None
nobody_unknown names = is_none-some (position (same_name (nobody names)) names) (found_is_among (same_name (nobody names)) names ∙ nobody-apart names)

pub few_candidates : (c : equipment.Cell) (class : Name) → length (units_of_class c class) ≤ length c.units.items
few_candidates c class = grind (arith, length-filter (is_of_class class) c.units.items, count_by-le-length (is_of_class class) c.units.items, length-map)
