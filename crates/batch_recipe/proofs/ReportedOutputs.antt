-- The outputs that the phase of a node reports are those of its act.
use Rattle.std.proofs.Common.{◌≡◌, ℕ, zero, suc, ◌<◌, ◌≤◌, List, [], ◌∷◌, length, slice_get, Option, Some, None, ap, sym, ◌∙◌, refl, inl, inr}
use Rattle.std.proofs.lemmas.{Bool.cases_lt, Option.slice_get_past}
use Rattle.batch_recipe.{specs.ActsAtNodes.ActList, specs.ActsAtNodes.AreActsAt, specs.ActsAtNodes.IsActAt, specs.ActsAtNodes.IsNoAct, specs.ActsAtNodes.procedure_acts, specs.Conditions.Name, specs.Expanding.Binding, specs.Expanding.unbound, specs.Expanding.act_tree_with, specs.Expanding.named_tree_with, specs.Nodes.Node, specs.Nodes.reports_in, specs.Nodes.reports_of, specs.Procedure.sites, specs.Procedure.bound_nodes, specs.Procedure.procedure_nodes, specs.Procedure.tables_from, specs.Tree.Place, specs.Tree.Tree, specs.Tree.act, specs.Tree.skip, specs.Tree.seq, specs.Tree.par, specs.Tree.sel, specs.Tree.loop, specs.WellFormed.reports_with, specs.declared.act.Act.Act, specs.declared.act.Work.Work, specs.declared.act.Work.TheVariants.Follows, specs.declared.act.Work.TheVariants.Runs, specs.declared.acts.Acts.Acts, proofs.NodeActs.procedure_acts_are}

abbrev pub act_reports : Option Act → List Name
act_reports None = []
act_reports (Some a) = reports_with a.work

abbrev listed_reports : Option (Option Act) → List Name
listed_reports None = []
listed_reports (Some a) = act_reports a

no_reports : (t : Tree) → IsNoAct t → reports_in t ≡ []
no_reports (act s task) h = absurd h
no_reports skip h = refl
no_reports (seq ts) h = refl
no_reports (par ts) h = refl
no_reports (sel cs) h = refl
no_reports (loop n c t) h = refl

module _ (bound : Binding) (acts : Acts) where
  of_tree : (trees : Name → Name → Place → Tree) (unit : Name) (p : Place) (a : Act) (w : Work) → a.work ≡ w → reports_in (act_tree_with (sites bound acts) trees unit a p) ≡ reports_with w
  of_tree trees unit p a (Follows chart) e = rw e refl
  of_tree trees unit p a (Runs phase values reports) e = rw e refl

  at_node : (a : Option Act) (at : Node) → IsActAt bound acts a at → reports_in at.here ≡ act_reports a
  at_node None at h = no_reports at.here h
  at_node (Some a) at h = ap reports_in h.here_is ∙ of_tree (named_tree_with (sites bound acts) (tables_from acts h.below)) h.unit at.place a a.work refl

  agree : (list : ActList) (ns : List Node) (k : ℕ) → AreActsAt bound acts list ns → reports_of (slice_get ns k) ≡ listed_reports (slice_get list k)
  agree [] [] k h = refl
  agree [] (at ∷ ns) k h = absurd h
  agree (b ∷ list) [] k h = absurd h
  agree (b ∷ list) (at ∷ ns) zero h = at_node b at h.0
  agree (b ∷ list) (at ∷ ns) (suc k) h = agree list ns k h.1

  pub reports-listed : (k : ℕ) → reports_of (slice_get (bound_nodes bound acts) k) ≡ listed_reports (slice_get (procedure_acts acts) k)
  reports-listed k = agree (procedure_acts acts) (bound_nodes bound acts) k (procedure_acts_are bound acts)

-- whatever units take the roles
pub reports-alike : (bound : Binding) (acts : Acts) (k : ℕ) → reports_of (slice_get (procedure_nodes acts) k) ≡ reports_of (slice_get (bound_nodes bound acts) k)
reports-alike bound acts k = reports-listed unbound acts k ∙ sym (reports-listed bound acts k)

-- by the result of `act_at`
pub told-reports : (acts : Acts) (k : ℕ) (a : Option Act) → (k < length (procedure_nodes acts) → slice_get (procedure_acts acts) k ≡ Some a)
    → (length (procedure_nodes acts) ≤ k → a ≡ None) → act_reports a ≡ reports_of (slice_get (procedure_nodes acts) k)
told-reports acts k a within past = elim (cases_lt k (length (procedure_nodes acts))) [
  | inr h ↦ ap act_reports (past h) ∙ sym (ap reports_of (slice_get_past (procedure_nodes acts) k h))
  | inl h ↦ sym (reports-listed unbound acts k ∙ ap listed_reports (within h))
]
