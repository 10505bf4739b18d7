-- The meaning of the verdicts on recipes for clearance.
use Rattle.std.proofs.Common.{arith, ◌≡◌, ◌≢◌, ℕ, ◌+◌, true, false, Option, Some, None, List, [], ◌∷◌, map, get_or, position, inl, inr, refl, sym, ap, ◌∙◌, subst}
use Rattle.std.{specs.Prelude.IsTrue, specs.Prelude.unwrap_or, specs.Map.lookup, specs.Cmp.Lexicographic.bytes_decides, proofs.lemmas.Bool.false≢true, proofs.lemmas.Bool.false_from_ne_true, proofs.lemmas.Bool.or_from, proofs.lemmas.List.get_or-map, proofs.lemmas.List.Quantifiers.position-Some}
use Rattle.batch_cell.specs.LookUps.{resources_of}
use Rattle.batch_cell.specs.declared.cell.Cell as equipment
use Rattle.batch_recipe.specs.{Conditions.Name, Conditions.same_name, Tree.Tree, WellFormed.is_among}
use Rattle.batch_model.specs.{Lists.Each, Plant.Master, Plant.Setup, Cleared.Ranking, Cleared.Part, Cleared.IsClear, Cleared.IsCleared, Cleared.IsClearedRecipe, Cleared.ReservesFollow, Cleared.procedure_parts}
use Rattle.batch_verify.{specs.CertificateText.Rank, specs.Ranked.names_in, specs.Ranked.rank_of, specs.Ranked.AreAmong, specs.Ranked.RanksAll, specs.Ranked.IsFirstUnknown, specs.Refusals.rank_in, specs.Refusals.IsFirstBroken, specs.Refusals.IsFirstBrokenBy, specs.Verifying.IsRecipeSet, specs.Verifying.IsFirstRefusal, specs.Judging.IsRecipeRefusal, specs.declared.rule.Broken.Broken, specs.declared.refusal.SetRefusal.SetRefusal, specs.declared.refusal.SetRefusal.TheVariants.Recipes, specs.declared.refusal.SetRefusal.TheVariants.RankedTwice, specs.declared.refusal.SetRefusal.TheVariants.UnknownEntry, specs.declared.refusal.SetRefusal.TheVariants.Unranked, specs.declared.refusal.SetRefusal.TheVariants.Recipe as in_recipe, specs.declared.refusal.SetRefusal.TheVariants.Memory, proofs.LeastVerdict.no_break, proofs.ServedRoles.tried_serves, proofs.NamesInList.Each-at, proofs.NamesInList.are_distinct-again, proofs.NamesInList.among_by_place, proofs.CertificateEntries.among_by_lookup, proofs.CertificateEntries.is_none-some}
use mathlib.Core.Path.{fun_ext}

-- The ranking by numbers is that by names

same_names : (a b : Name) → same_name a b ≡ true → a ≡ b
same_names a b e = (bytes_decides a b).0 e

not_among : (known names : List Name) (name : Name) → AreAmong known names → is_among known name ≡ false → is_among names name ≡ false
not_among known [] name h e = refl
not_among known (x ∷ xs) name h e =
    let P : Name → Type 0 = λ n. is_among known n ≡ false in
    let apart : same_name name x ≡ false = false_from_ne_true (same_name name x) (λ same. false≢true (sym (subst P (same_names name x same) e) ∙ h.0)) in
    or_from (same_name name x) (is_among xs name) apart (not_among known xs name h.1 e)

unranked : (known : List Name) (ranks : List Rank) (name : Name) → AreAmong known (names_in ranks) → is_among known name ≡ false → rank_of ranks name ≡ 0
unranked known ranks name h e =
    ap (λ r. unwrap_or r 0) (is_none-some (lookup (same_name name) ranks) (sym (among_by_lookup ranks name) ∙ not_among known (names_in ranks) name h e))

rank_at : (c : equipment.Cell) (ranks : List Rank) (name : Name) (place : Option ℕ) → AreAmong (resources_of c) (names_in ranks)
    → position (same_name name) (resources_of c) ≡ place → rank_in c (map (rank_of ranks) (resources_of c)) name ≡ rank_of ranks name
rank_at c ranks name None h e = rw (e, rank_in) (sym (unranked (resources_of c) ranks name h (among_by_place (resources_of c) name None false (sym e) refl)))
rank_at c ranks name (Some number) h e =
    let here = position-Some (same_name name) (resources_of c) number name e in
    rw (e, rank_in) (get_or-map (rank_of ranks) (resources_of c) number name 0 here.0 ∙ ap (rank_of ranks) (sym (same_names name (get_or (resources_of c) number name) here.1)))

pub same_ranking : (c : equipment.Cell) (ranks : List Rank) → AreAmong (resources_of c) (names_in ranks) → rank_in c (map (rank_of ranks) (resources_of c)) ≡ rank_of ranks
same_ranking c ranks h = fun_ext (λ name. rank_at c ranks name (position (same_name name) (resources_of c)) h refl)

-- A refusal leaves no clearance

broken_recipe : (setup : Setup) (rank : Ranking) (procedure : Tree) (xs : List Part) (k : ℕ) (b : Broken) → IsFirstBroken setup (Some rank) procedure xs k b → Each (IsClear setup rank) xs
    → Each (λ x. ReservesFollow procedure x.node) xs → ⊥
broken_recipe setup rank procedure [] k b h clear follow = h
broken_recipe setup rank procedure (x ∷ xs) k b h clear follow = elim h [
  | inl here ↦ no_break setup (Some rank) procedure x b.rule here.1 (clear.0, follow.0)
  | inr later ↦ broken_recipe setup rank procedure xs (k + 1) b later.1 clear.1 follow.1
]

broken_master : (setup : Setup) (rank : Ranking) (master : Master) (b : Broken) → IsFirstBrokenBy setup (Some rank) master b → IsClearedRecipe setup rank master → ⊥
broken_master setup rank master b h clear =
    let served = clear.1 h.bound (tried_serves setup master clear.0 h.bound h.tried) in
    broken_recipe setup rank (master.control h.bound).procedure (procedure_parts (master.control h.bound)) 0 b h.breaks served.clear served.follow

no_unknown : (known names : List Name) (k : ℕ) → IsFirstUnknown known names k → AreAmong known names → ⊥
no_unknown known names k h all = false≢true (sym h.unknown ∙ Each-at (λ (name : Name). IsTrue (is_among known name)) names k h.name h.found all)

pub no_clearance : (setup : Setup) (ranks : List Rank) (refusal : SetRefusal) → IsFirstRefusal setup ranks refusal → refusal ≢ Memory
    → RanksAll setup.resources ranks → IsCleared setup (rank_of ranks) → ⊥
no_clearance setup ranks Recipes h known ranked cleared = h (record { names_differ = cleared.names_differ; few = cleared.few })
no_clearance setup ranks (in_recipe k broken) h known ranked cleared =
    broken_master setup (rank_of ranks) h.2.recipe broken h.2.first
    (Each-at (IsClearedRecipe setup (rank_of ranks)) setup.recipes k h.2.recipe h.2.found cleared.recipes)
no_clearance setup ranks (RankedTwice k) h known ranked cleared = are_distinct-again (names_in ranks) k h.1.name h.1.found h.1.repeated ranked.once
no_clearance setup ranks (UnknownEntry k) h known ranked cleared = no_unknown setup.resources (names_in ranks) k h.1.1 ranked.known
no_clearance setup ranks (Unranked n) h known ranked cleared = no_unknown (names_in ranks) setup.resources n h.1.2 ranked.complete
no_clearance setup ranks Memory h known ranked cleared = known refl

-- If recipes alone were checked

pub recipe_refusal : (setup : Setup) (ranks : List Rank) (rank : Ranking) (refusal : SetRefusal) → rank ≡ rank_of ranks → IsRecipeSet setup.recipes → RanksAll setup.resources ranks
    → IsRecipeRefusal setup rank refusal → IsFirstRefusal setup ranks refusal
recipe_refusal setup ranks rank (in_recipe k broken) e set ranked h = (set, ranked, rw e at h)
recipe_refusal setup ranks rank Memory e set ranked h = tt
recipe_refusal setup ranks rank refusal e set ranked h = grind arith
