-- The values that phases are handed.
use Rattle.std.proofs.Common.{◌≡◌, ◌<◌, ◌≤◌, refl, sym, ◌∙◌, ap, ap₂, subst, ℕ, zero, suc, List, [], ◌∷◌, Bool, true, ◌&&◌, Option, Some, None, inl, inr, arith, ◌+◌, length, get_or, set, nat_le}
use Rattle.std.{specs.Prelude.slice_get, specs.Prelude.unwrap_or, proofs.lemmas.Bool.and_parts, proofs.lemmas.Bool.cases_lt, proofs.lemmas.List.get_or-set_same, proofs.lemmas.List.get_or-set_other, specs.Global.Vec, specs.List.list_all, specs.List.zip}
use Rattle.batch_recipe.{specs.ActsAtNodes.ActList, specs.ActsAtNodes.AreActsAt, specs.ActsAtNodes.IsActAt, specs.ActsAtNodes.StandsIn, specs.ActsAtNodes.procedure_acts, specs.Conditions.Name, specs.Conditions.ValueList, specs.Conditions.same_name, specs.Conditions.value_or_0, specs.Diagram.diagram_of, specs.Expanding.Sites, specs.Expanding.act_named, specs.Expanding.act_tree_with, specs.Expanding.named_tree_with, specs.Expanding.unbound, specs.Nodes.Node, specs.Procedure.procedure_nodes, specs.Procedure.sites, specs.Procedure.table_at, specs.Procedure.tables_from, specs.Tree.Place, specs.Tree.Tree, specs.WellFormed.act_names, specs.WellFormed.are_distinct, specs.WellFormed.follows_no_par, specs.WellFormed.is_among, specs.WellFormed.is_chart, specs.WellFormed.is_well_formed, specs.WellFormed.is_work, specs.WellFormed.value_names, specs.declared.act.Act.Act, specs.declared.act.TheConstants.MAX_VALUES, specs.declared.act.Work.Work, specs.declared.act.Work.TheVariants.Follows, specs.declared.act.Work.TheVariants.Runs, specs.declared.acts.Acts.Acts, specs.declared.acts.LabelTable.LabelTable, specs.declared.acts.LabelTable.TheVariants.UnitProcedures, specs.declared.acts.LabelTable.TheVariants.Operations, specs.declared.acts.LabelTable.TheVariants.Phases, specs.declared.chart.TheConstants.MAX_DEPTH, specs.declared.recipe.Recipe.Recipe, proofs.NodeActs.procedure_acts_are}
use Rattle.batch_model.specs.Moves.{handed_values}
use Rattle.batch_engine.{specs.Names.handed_in, specs.Names.handed_of, specs.Names.node_of, proofs.NodesAcrossBindings.no_handed}
use Rattle.batch_chart.proofs.FoundElement.{found_passes}

-- each name beside its value
pub zip-values : (vs : ValueList) (ns : List Name) (xs : List ℕ) → length ns ≤ length xs → ((k : ℕ) → k < length ns → get_or xs k 0 ≡ value_or_0 vs (get_or ns k [])) → zip ns xs ≡ handed_values vs ns
zip-values vs [] xs l h = refl
zip-values vs (n ∷ ns) [] l h = absurd (omega arith)
zip-values vs (n ∷ ns) (x ∷ xs) l h =
    ap₂ (λ (y : ℕ) ys. (let e : Name × ℕ = (n, y) in e) ∷ ys) (h 0 (omega arith)) (zip-values vs ns xs (omega arith) (λ k m. h (suc k) (omega arith)))

pub or-zero : (o : Option ℕ) → unwrap_or o 0 ≡ (let n : ℕ = elim o [ None ↦ 0 | Some n ↦ n ] in n)
or-zero None = refl
or-zero (Some n) = refl

-- one more value
pub set-value : (vs : ValueList) (ns : List Name) (xs : List ℕ) (i x : ℕ) → i < length xs → x ≡ value_or_0 vs (get_or ns i []) → ((k : ℕ) → k < i → get_or xs k 0 ≡ value_or_0 vs (get_or ns k []))
    → (k : ℕ) → k < i + 1 → get_or (set xs i x) k 0 ≡ value_or_0 vs (get_or ns k [])
set-value vs ns xs i x small is below k l = elim (cases_lt k i) [
  | inl less ↦ get_or-set_other xs i k x 0 (omega (arith, less)) ∙ below k less
  | inr more ↦
      let same : i ≡ k = omega (arith, l, more) in
      subst (λ j. get_or (set xs i x) j 0 ≡ value_or_0 vs (get_or ns j [])) same (get_or-set_same xs i x 0 small ∙ is)
]

-- The names of the values that the phase of an act is handed

abbrev pub handed_with : Work → List Name
handed_with (Follows chart) = []
handed_with (Runs phase values reports) = values.items

abbrev pub act_handed : Option Act → List Name
act_handed None = []
act_handed (Some a) = handed_with a.work

handed_of_tree : (s : Sites) (trees : Name → Name → Place → Tree) (unit : Name) (p : Place) (a : Act) (w : Work) → a.work ≡ w → handed_in (act_tree_with s trees unit a p) ≡ handed_with w
handed_of_tree s trees unit p a (Follows chart) e = rw e refl
handed_of_tree s trees unit p a (Runs phase values reports) e = rw e refl

handed_at_node : (acts : Acts) (a : Option Act) (at : Node) → IsActAt unbound acts a at → handed_in at.here ≡ act_handed a
handed_at_node acts None at h = no_handed at.here h
handed_at_node acts (Some a) at h = ap handed_in h.here_is ∙ handed_of_tree (sites unbound acts) (named_tree_with (sites unbound acts) (tables_from acts h.below)) h.unit at.place a a.work refl

handed_agree : (acts : Acts) (list : ActList) (ns : List Node) (k : ℕ) (a : Option Act) → AreActsAt unbound acts list ns → slice_get list k ≡ Some a → handed_of (slice_get ns k) ≡ act_handed a
handed_agree acts [] [] k a h e = let bad : None ≡ Some a = e in absurd cc
handed_agree acts (b ∷ list) (at ∷ ns) zero a h e = let same : Some b ≡ Some a = e in let is : b ≡ a = cc in handed_at_node acts b at h.0 ∙ ap act_handed is
handed_agree acts (b ∷ list) (at ∷ ns) (suc k) a h e = handed_agree acts list ns k a h.1 e
handed_agree acts list ns k a h e = absurd (grind arith)

pub act-handed : (r : Recipe) (k : ℕ) (a : Option Act) → slice_get (procedure_acts r.acts) k ≡ Some a → handed_of (node_of k r) ≡ act_handed a
act-handed r k a e = handed_agree r.acts (procedure_acts r.acts) (procedure_nodes r.acts) k a (procedure_acts_are unbound r.acts) e

past : (ns : List Node) (k : ℕ) → length ns ≤ k → slice_get ns k ≡ None
past [] k h = refl
past (n ∷ ns) zero h = absurd (omega arith)
past (n ∷ ns) (suc k) h = past ns k (omega arith)

pub past-handed : (r : Recipe) (k : ℕ) → length (procedure_nodes r.acts) ≤ k → handed_of (node_of k r) ≡ []
past-handed r k h = ap handed_of (past (procedure_nodes r.acts) k h)

-- No more values than a phase may be handed

at-most : (m n : ℕ) → nat_le m n ≡ true → m ≤ n
at-most m n e = grind arith

work-few : (labels vs : List Name) (w : Work) (phase : Name) (values reports : Vec Name) → w ≡ Runs phase values reports
    → (let t : Bool = elim w [ Follows c ↦ is_chart labels vs MAX_DEPTH (diagram_of c) | Runs phase handed reports ↦ nat_le (length handed.items) MAX_VALUES && list_all (is_among vs) handed.items ] in t ≡ true)
    → length values.items ≤ MAX_VALUES
work-few labels vs (Follows c) phase values reports e h = absurd cc
work-few labels vs (Runs p handed told) phase values reports e h =
    let same : handed ≡ values = cc in
    subst (λ (z : Vec Name). length z.items ≤ MAX_VALUES) same (at-most (length handed.items) MAX_VALUES (and_parts (nat_le (length handed.items) MAX_VALUES) (list_all (is_among vs) handed.items) h).0)

abbrev IsSomeWork : List Name → Act → Type 0
IsSomeWork vs a = (labels : List Name) × (is_work labels vs a ≡ true)

-- of the procedure, and of the acts in each table
abbrev of_procedure : List Name → Acts → Bool
of_procedure vs a = is_work (act_names a.unit_procedures.items) vs a.procedure

abbrev of_unit_procedures : List Name → Acts → Bool
of_unit_procedures vs a = list_all (λ u. is_work (act_names a.operations.items) vs u && follows_no_par u) a.unit_procedures.items

abbrev of_operations : List Name → Acts → Bool
of_operations vs a = list_all (is_work (act_names a.phases.items) vs) a.operations.items

abbrev of_phases : List Name → Acts → Bool
of_phases vs a = list_all (is_work [] vs) a.phases.items

pub record AreWorks (vs : List Name) (acts : Acts) : Type 0 where
  pub procedure : of_procedure vs acts ≡ true
  pub unit_procedures : of_unit_procedures vs acts ≡ true
  pub operations : of_operations vs acts ≡ true
  pub phases : of_phases vs acts ≡ true

works : (vs : List Name) (acts : Acts) → is_well_formed vs acts ≡ true → AreWorks vs acts
works vs acts w =
    let names : Bool = are_distinct vs && (are_distinct (act_names acts.unit_procedures.items) && (are_distinct (act_names acts.operations.items) && are_distinct (act_names acts.phases.items))) in
    let all = and_parts names (of_procedure vs acts && (of_unit_procedures vs acts && (of_operations vs acts && of_phases vs acts))) w in
    let first = and_parts (of_procedure vs acts) (of_unit_procedures vs acts && (of_operations vs acts && of_phases vs acts)) all.1 in
    let second = and_parts (of_unit_procedures vs acts) (of_operations vs acts && of_phases vs acts) first.1 in
    let third = and_parts (of_operations vs acts) (of_phases vs acts) second.1 in
    record { procedure = first.0; unit_procedures = second.0; operations = third.0; phases = third.1 }

named-work : (vs : List Name) (acts : Acts) (table : LabelTable) (name : Name) (a : Act) → AreWorks vs acts → act_named (table_at acts table) name ≡ Some a → IsSomeWork vs a
named-work vs acts UnitProcedures name a w f = (
  act_names acts.operations.items,
  (and_parts (is_work (act_names acts.operations.items) vs a) (follows_no_par a)
      (found_passes (λ z. same_name z.name name) (λ u. is_work (act_names acts.operations.items) vs u && follows_no_par u) acts.unit_procedures.items a f w.unit_procedures)).0,
)
named-work vs acts Operations name a w f = (
  act_names acts.phases.items,
  found_passes (λ z. same_name z.name name) (is_work (act_names acts.phases.items) vs) acts.operations.items a f w.operations,
)
named-work vs acts Phases name a w f = ([], found_passes (λ z. same_name z.name name) (is_work [] vs) acts.phases.items a f w.phases)

stood-work : (vs : List Name) (acts : Acts) (a : Act) (below : Option LabelTable) → AreWorks vs acts → StandsIn acts a below → IsSomeWork vs a
stood-work vs acts a below w (inl h) = (act_names acts.unit_procedures.items, ap (is_work (act_names acts.unit_procedures.items) vs) h.0 ∙ w.procedure)
stood-work vs acts a below w (inr h) = named-work vs acts h.0 h.1.0 a w h.1.1.0

acts-stand : (acts : Acts) (list : ActList) (ns : List Node) (k : ℕ) (a : Act) → AreActsAt unbound acts list ns → slice_get list k ≡ Some (Some a) → (below : Option LabelTable) × StandsIn acts a below
acts-stand acts (b ∷ list) (at ∷ ns) zero a h e =
    let is : b ≡ Some a = cc in
    let node = subst (λ (z : Option Act). IsActAt unbound acts z at) is h.0 in
    (node.below, node.stands)
acts-stand acts (b ∷ list) (at ∷ ns) (suc k) a h e = acts-stand acts list ns k a h.1 e
acts-stand acts list ns k a h e = absurd (grind arith)

pub few-handed : (r : Recipe) (k : ℕ) (a : Act) (phase : Name) (values reports : Vec Name) → slice_get (procedure_acts r.acts) k ≡ Some (Some a) → a.work ≡ Runs phase values reports → length values.items ≤ MAX_VALUES
few-handed r k a phase values reports e f =
    let s = acts-stand r.acts (procedure_acts r.acts) (procedure_nodes r.acts) k a (procedure_acts_are unbound r.acts) e in
    let names : List Name = value_names r.inputs.items r.parameters.items r.outputs.items in
    let w = stood-work names r.acts a s.0 (works names r.acts r.well_formed) s.1 in
    work-few w.0 names a.work phase values reports f w.1

-- The same at a node, by the result of `act_at`

pub told-handed : (r : Recipe) (k : ℕ) (a : Option Act) → (k < length (procedure_nodes r.acts) → slice_get (procedure_acts r.acts) k ≡ Some a)
    → (length (procedure_nodes r.acts) ≤ k → a ≡ None) → handed_of (node_of k r) ≡ act_handed a
told-handed r k a within gone = elim (cases_lt k (length (procedure_nodes r.acts))) [
  | inr h ↦ past-handed r k h ∙ sym (ap act_handed (gone h))
  | inl h ↦ act-handed r k a (within h)
]

pub told-few : (r : Recipe) (k : ℕ) (a : Act) (phase : Name) (values reports : Vec Name) → (k < length (procedure_nodes r.acts) → slice_get (procedure_acts r.acts) k ≡ Some (Some a))
    → (length (procedure_nodes r.acts) ≤ k → ⊥) → a.work ≡ Runs phase values reports → length values.items ≤ MAX_VALUES
told-few r k a phase values reports within gone e = elim (cases_lt k (length (procedure_nodes r.acts))) [
  | inr h ↦ absurd (gone h)
  | inl h ↦ few-handed r k a phase values reports (within h) e
]
