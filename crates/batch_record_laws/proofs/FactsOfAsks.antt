-- An act that asks, and the fact that says so.
use Rattle.std.proofs.Common.{arith, ◌≡◌, ⊎_elim, refl, sym, ap, subst, ℕ, List, [], ◌∷◌, ◌++◌, take, slice_get, Option, Some, inl, inr}
use Rattle.batch_model.{specs.Lists.Has, specs.Rest.Rest, specs.Rest.ready, specs.Rest.asking, specs.Rest.open_act, specs.Rest.live, specs.Rest.freeing, specs.Rest.in_seq, specs.Rest.in_par, specs.Rest.in_loop, specs.Rest.done, specs.Rest.Rests, specs.Rest.no_rests, specs.Rest.rest, specs.Rest.acts, specs.Rest.acts_of_each, proofs.Members.Has-split, proofs.Members.Has-left, proofs.Members.Has-right}
use Rattle.batch_recipe.specs.{Tree.Place, Tree.Step, Tree.Task, declared.need.Need.Need}
use Rattle.batch_record_laws.proofs.{PlantFacts.awaiting, PlantFacts.performing, PlantFacts.held_at, PlantFacts.awaited_at, PlantFacts.facts, PlantFacts.facts_of_each, RanksOfAsks.held-awaiting, RanksOfAsks.awaited-awaiting, RanksOfAsks.lone-awaiting}

abbrev pub AskingAct : List Rest → Place → Need → Type 0
AskingAct as' q x = (p : Step) × (w : Task) × (n : ℕ) × Has as' (asking p w n) × (p.place ≡ q) × (slice_get p.needs n ≡ Some x)

asking-left : (xs ys : List Rest) (q : Place) (x : Need) → AskingAct xs q x → AskingAct (xs ++ ys) q x
asking-left xs ys q x h = (h.0, h.1, h.2, Has-left xs ys (asking h.0 h.1 h.2) h.3, h.4, h.5)

asking-right : (xs ys : List Rest) (q : Place) (x : Need) → AskingAct ys q x → AskingAct (xs ++ ys) q x
asking-right xs ys q x h = (h.0, h.1, h.2, Has-right xs ys (asking h.0 h.1 h.2) h.3, h.4, h.5)

awaited-place : (p : Place) (o : Option Need) (q : Place) (x : Need) → Has (awaited_at p o) (q, awaiting x) → p ≡ q
awaited-place p (Some r) q x (inl e) = ap (λ z. z.0) e
awaited-place p o q x h = grind arith

mutual
  pub awaiting-act : (r : Rest) (q : Place) (x : Need) → Has (facts r) (q, awaiting x) → AskingAct (acts r) q x
  awaiting-act (ready s w k) q x h = absurd (held-awaiting s.place (take k s.needs) q x h)
  awaiting-act (asking s w k) q x h =
      ⊎_elim (λ m. absurd (held-awaiting s.place (take k s.needs) q x m))
      (λ m. (s, w, k, inl refl, awaited-place s.place (slice_get s.needs k) q x m, awaited-awaiting s.place (slice_get s.needs k) q x m))
      (Has-split (held_at s.place (take k s.needs)) (awaited_at s.place (slice_get s.needs k)) (q, awaiting x) h)
  awaiting-act (open_act s r) q x h =
      ⊎_elim (λ m. absurd (held-awaiting s.place s.needs q x m)) (λ m. let k = awaiting-act r q x m in (k.0, k.1, k.2, inr k.3, k.4, k.5))
      (Has-split (held_at s.place s.needs) (facts r) (q, awaiting x) h)
  awaiting-act (live s y t) q x h =
      absurd (⊎_elim (held-awaiting s.place s.needs q x) (lone-awaiting s.place y q x) (Has-split (held_at s.place s.needs) ((s.place, performing y) ∷ []) (q, awaiting x) h))
  awaiting-act (freeing s k) q x h = absurd (held-awaiting s.place (take k s.needs) q x h)
  awaiting-act (in_seq r cs) q x h = awaiting-act r q x h
  awaiting-act (in_par rs) q x h = awaiting-act_of_each rs q x h
  awaiting-act (in_loop n c body r) q x h = awaiting-act r q x h
  awaiting-act done q x h = absurd h

  awaiting-act_of_each : (rs : Rests) (q : Place) (x : Need) → Has (facts_of_each rs) (q, awaiting x) → AskingAct (acts_of_each rs) q x
  awaiting-act_of_each no_rests q x h = absurd h
  awaiting-act_of_each (rest r rs) q x h =
      ⊎_elim (λ m. asking-left (acts r) (acts_of_each rs) q x (awaiting-act r q x m)) (λ m. asking-right (acts r) (acts_of_each rs) q x (awaiting-act_of_each rs q x m))
      (Has-split (facts r) (facts_of_each rs) (q, awaiting x) h)

mutual
  pub asking-awaits : (r : Rest) (p : Step) (w : Task) (n : ℕ) (x : Need) → Has (acts r) (asking p w n) → slice_get p.needs n ≡ Some x → Has (facts r) (p.place, awaiting x)
  asking-awaits (ready u v m) p w n x (inl e) f = absurd cc
  asking-awaits (ready u v m) p w n x (inr e) f = absurd e
  asking-awaits (asking u v m) p w n x (inl e) f =
      subst (λ z. Has (facts z) (p.place, awaiting x)) (sym e)
      (Has-right (held_at p.place (take n p.needs)) (awaited_at p.place (slice_get p.needs n)) (p.place, awaiting x)
      (subst (λ z. Has (awaited_at p.place z) (p.place, awaiting x)) (sym f) (inl refl)))
  asking-awaits (asking u v m) p w n x (inr e) f = absurd e
  asking-awaits (open_act u r) p w n x (inl e) f = absurd cc
  asking-awaits (open_act u r) p w n x (inr e) f = Has-right (held_at u.place u.needs) (facts r) (p.place, awaiting x) (asking-awaits r p w n x e f)
  asking-awaits (live u y t) p w n x (inl e) f = absurd cc
  asking-awaits (live u y t) p w n x (inr e) f = absurd e
  asking-awaits (freeing u m) p w n x (inl e) f = absurd cc
  asking-awaits (freeing u m) p w n x (inr e) f = absurd e
  asking-awaits (in_seq r cs) p w n x e f = asking-awaits r p w n x e f
  asking-awaits (in_par rs) p w n x e f = asking-awaits_each rs p w n x e f
  asking-awaits (in_loop m c body r) p w n x e f = asking-awaits r p w n x e f
  asking-awaits done p w n x e f = absurd e

  asking-awaits_each : (rs : Rests) (p : Step) (w : Task) (n : ℕ) (x : Need) → Has (acts_of_each rs) (asking p w n) → slice_get p.needs n ≡ Some x → Has (facts_of_each rs) (p.place, awaiting x)
  asking-awaits_each no_rests p w n x e f = absurd e
  asking-awaits_each (rest r rs) p w n x e f =
      ⊎_elim (λ m. Has-left (facts r) (facts_of_each rs) (p.place, awaiting x) (asking-awaits r p w n x m f))
      (λ m. Has-right (facts r) (facts_of_each rs) (p.place, awaiting x) (asking-awaits_each rs p w n x m f))
      (Has-split (acts r) (acts_of_each rs) (asking p w n) e)
