-- The place, the name and the values of a node are the same whatever units take the roles.
use Rattle.std.proofs.Common.{arith, ◌≡◌, ◌≢◌, refl, sym, ◌∙◌, ap, subst, ℕ, zero, suc, List, [], ◌∷◌, Option, Some, None, length, map}
use Rattle.std.{specs.Prelude.slice_get, specs.List.AllByRecursion, proofs.lemmas.List.length-map}
use Rattle.batch_recipe.{specs.ActsAtNodes.ActList, specs.ActsAtNodes.AreActsAt, specs.ActsAtNodes.IsActAt, specs.ActsAtNodes.IsNoAct, specs.ActsAtNodes.procedure_acts, specs.Conditions.Name, specs.Expanding.Binding, specs.Expanding.Sites, specs.Expanding.unbound, specs.Expanding.act_tree_with, specs.Expanding.named_tree_with, specs.Nodes.Node, specs.Nodes.node_count, specs.Places.IsNodeAt, specs.Places.NoNodeAt, specs.Procedure.bound_nodes, specs.Procedure.bound_tree, specs.Procedure.procedure_nodes, specs.Procedure.sites, specs.Procedure.tables_from, specs.Tree.Place, specs.Tree.Tree, specs.declared.act.Act.Act, specs.declared.act.Work.Work, specs.declared.act.Work.TheVariants.Follows, specs.declared.act.Work.TheVariants.Runs, specs.declared.acts.Acts.Acts, proofs.PlacesInBindings.places_stay, proofs.NodeActs.procedure_acts_are, proofs.NodeOrder.counted_nodes}
use Rattle.batch_engine.specs.Names.{node_place, chart_act_name, name_of, handed_in, handed_of}

-- Places

abbrev place_or_none : Option Place → Place
place_or_none None = []
place_or_none (Some p) = p

place-mapped : (ns : List Node) (k : ℕ) → node_place (slice_get ns k) ≡ place_or_none (slice_get (map (λ (n : Node). n.place) ns) k)
place-mapped [] k = refl
place-mapped (n ∷ ns) zero = refl
place-mapped (n ∷ ns) (suc k) = place-mapped ns k

pub place-alike : (bound : Binding) (acts : Acts) (k : ℕ) → node_place (slice_get (procedure_nodes acts) k) ≡ node_place (slice_get (bound_nodes bound acts) k)
place-alike bound acts k =
    place-mapped (procedure_nodes acts) k ∙ sym (ap (λ (ps : List Place). place_or_none (slice_get ps k)) (places_stay bound acts)) ∙ sym (place-mapped (bound_nodes bound acts) k)

abbrev IsPlacedAt : Option Place → Place → Type 0
IsPlacedAt None p = ⊥
IsPlacedAt (Some q) p = q ≡ p

at-place : (ns : List Node) (k : ℕ) (p : Place) → IsNodeAt ns k p → IsPlacedAt (slice_get (map (λ (n : Node). n.place) ns) k) p
at-place [] k p h = absurd (let bad : ◌≡◌ {A = Option Node} None (Some h.0) = h.1 in cc)
at-place (n ∷ ns) zero p h = let same : n ≡ h.0 = cc in ap (λ (z : Node). z.place) same ∙ h.2
at-place (n ∷ ns) (suc k) p h = at-place ns k p h

place-at : (ns : List Node) (k : ℕ) (p : Place) → IsPlacedAt (slice_get (map (λ (n : Node). n.place) ns) k) p → IsNodeAt ns k p
place-at [] k p h = absurd h
place-at (n ∷ ns) zero p h = (n, refl, h)
place-at (n ∷ ns) (suc k) p h = place-at ns k p h

-- the node with a number has the same place
pub node-alike : (bound : Binding) (acts : Acts) (k : ℕ) (p : Place) → IsNodeAt (procedure_nodes acts) k p → IsNodeAt (bound_nodes bound acts) k p
node-alike bound acts k p h =
    place-at (bound_nodes bound acts) k p (subst (λ (ps : List Place). IsPlacedAt (slice_get ps k) p) (sym (places_stay bound acts)) (at-place (procedure_nodes acts) k p h))

places-elsewhere : (ns : List Node) (p : Place) → NoNodeAt ns p → AllByRecursion (λ (q : Place). q ≢ p) (map (λ (n : Node). n.place) ns)
places-elsewhere [] p h = tt
places-elsewhere (n ∷ ns) p h = (h.0, places-elsewhere ns p h.1)

nodes-elsewhere : (ns : List Node) (p : Place) → AllByRecursion (λ (q : Place). q ≢ p) (map (λ (n : Node). n.place) ns) → NoNodeAt ns p
nodes-elsewhere [] p h = tt
nodes-elsewhere (n ∷ ns) p h = (h.0, nodes-elsewhere ns p h.1)

-- no node has a place that none had
pub nowhere-alike : (bound : Binding) (acts : Acts) (p : Place) → NoNodeAt (procedure_nodes acts) p → NoNodeAt (bound_nodes bound acts) p
nowhere-alike bound acts p h =
    nodes-elsewhere (bound_nodes bound acts) p
    (subst (AllByRecursion (λ (q : Place). q ≢ p)) (sym (places_stay bound acts)) (places-elsewhere (procedure_nodes acts) p h))

-- there are as many nodes
pub count-alike : (bound : Binding) (acts : Acts) → length (procedure_nodes acts) ≡ node_count (bound_tree bound acts)
count-alike bound acts =
    sym (length-map (procedure_nodes acts) (λ (n : Node). n.place)) ∙ sym (ap (λ (ps : List Place). length ps) (places_stay bound acts))
    ∙ length-map (bound_nodes bound acts) (λ (n : Node). n.place) ∙ counted_nodes (0 ∷ []) [] (bound_tree bound acts)

-- Names, and values that are handed

abbrev name_with : Name → Work → Name
name_with name (Follows chart) = name
name_with name (Runs phase values reports) = []

abbrev handed_with : Work → List Name
handed_with (Follows chart) = []
handed_with (Runs phase values reports) = values.items

abbrev act_name : Option (Option Act) → Name
act_name None = []
act_name (Some None) = []
act_name (Some (Some a)) = name_with a.name a.work

abbrev act_handed : Option (Option Act) → List Name
act_handed None = []
act_handed (Some None) = []
act_handed (Some (Some a)) = handed_with a.work

name_of_tree : (s : Sites) (trees : Name → Name → Place → Tree) (unit : Name) (p : Place) (a : Act) (w : Work) → a.work ≡ w → chart_act_name (act_tree_with s trees unit a p) ≡ name_with a.name w
name_of_tree s trees unit p a (Follows chart) e = rw e refl
name_of_tree s trees unit p a (Runs phase values reports) e = rw e refl

handed_of_tree : (s : Sites) (trees : Name → Name → Place → Tree) (unit : Name) (p : Place) (a : Act) (w : Work) → a.work ≡ w → handed_in (act_tree_with s trees unit a p) ≡ handed_with w
handed_of_tree s trees unit p a (Follows chart) e = rw e refl
handed_of_tree s trees unit p a (Runs phase values reports) e = rw e refl

pub no_name : (t : Tree) → IsNoAct t → chart_act_name t ≡ []
no_name t h = grind arith

pub no_handed : (t : Tree) → IsNoAct t → handed_in t ≡ []
no_handed t h = grind arith

module _ (bound : Binding) (acts : Acts) where
  name_at_node : (a : Option Act) (at : Node) → IsActAt bound acts a at → chart_act_name at.here ≡ act_name (Some a)
  name_at_node None at h = no_name at.here h
  name_at_node (Some a) at h = ap chart_act_name h.here_is ∙ name_of_tree (sites bound acts) (named_tree_with (sites bound acts) (tables_from acts h.below)) h.unit at.place a a.work refl

  handed_at_node : (a : Option Act) (at : Node) → IsActAt bound acts a at → handed_in at.here ≡ act_handed (Some a)
  handed_at_node None at h = no_handed at.here h
  handed_at_node (Some a) at h = ap handed_in h.here_is ∙ handed_of_tree (sites bound acts) (named_tree_with (sites bound acts) (tables_from acts h.below)) h.unit at.place a a.work refl

  names_agree : (list : ActList) (ns : List Node) (k : ℕ) → AreActsAt bound acts list ns → name_of (slice_get ns k) ≡ act_name (slice_get list k)
  names_agree [] [] k h = refl
  names_agree (b ∷ list) (at ∷ ns) zero h = name_at_node b at h.0
  names_agree (b ∷ list) (at ∷ ns) (suc k) h = names_agree list ns k h.1
  names_agree list ns k h = absurd (grind arith)

  handed_agree : (list : ActList) (ns : List Node) (k : ℕ) → AreActsAt bound acts list ns → handed_of (slice_get ns k) ≡ act_handed (slice_get list k)
  handed_agree [] [] k h = refl
  handed_agree (b ∷ list) (at ∷ ns) zero h = handed_at_node b at h.0
  handed_agree (b ∷ list) (at ∷ ns) (suc k) h = handed_agree list ns k h.1
  handed_agree list ns k h = absurd (grind arith)

pub name-alike : (bound : Binding) (acts : Acts) (k : ℕ) → name_of (slice_get (procedure_nodes acts) k) ≡ name_of (slice_get (bound_nodes bound acts) k)
name-alike bound acts k =
    names_agree unbound acts (procedure_acts acts) (procedure_nodes acts) k (procedure_acts_are unbound acts)
    ∙ sym (names_agree bound acts (procedure_acts acts) (bound_nodes bound acts) k (procedure_acts_are bound acts))

pub handed-alike : (bound : Binding) (acts : Acts) (k : ℕ) → handed_of (slice_get (procedure_nodes acts) k) ≡ handed_of (slice_get (bound_nodes bound acts) k)
handed-alike bound acts k =
    handed_agree unbound acts (procedure_acts acts) (procedure_nodes acts) k (procedure_acts_are unbound acts)
    ∙ sym (handed_agree bound acts (procedure_acts acts) (bound_nodes bound acts) k (procedure_acts_are bound acts))
