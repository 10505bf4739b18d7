-- Moves and reports change an act at its own place alone, and leave the holdings in advance as they are.
use Rattle.std.proofs.Common.{◌≡◌, refl, sym, ◌∙◌, ap, ℕ, zero, suc, pred, [], length, inl, inr}
use Rattle.batch_matrix.specs.declared.{command.Command.Command, report.ReportOutcome.ReportOutcome, report.ReportOutcome.TheVariants.Ended, report.ReportOutcome.TheVariants.Now, report.ReportOutcome.TheVariants.Same, state.State.State}
use Rattle.batch_recipe.specs.{Conditions.ValueList, Tree.Step, Tree.runs, Tree.follows}
use Rattle.batch_model.specs.{Events.phase_after, Lists.Has, Moves.freed, Moves.sent, Moves.released, Moves.begun, Moves.ended, Moves.asked, Moves.granted, Rest.Rest, Rest.ready, Rest.asking, Rest.open_act, Rest.live, Rest.freeing, Rest.in_seq, Rest.in_par, Rest.in_loop, Rest.done, Rest.acts, Rest.place_of}
use Rattle.batch_record_laws.proofs.HoldingsInAdvance.{at_moment, lifted-none, reach-lifted, reach-fresh, StandsIn, IsTidy, IsSteady}

-- the acts that f makes of an act stand at places of its acts
abbrev pub Stays : (Rest → Rest) → Type 0
Stays f = (a x : Rest) → Has (acts (f a)) x → StandsIn (acts a) (place_of x)

pub stays-tidy : (f : Rest → Rest) → Stays f → IsTidy f
stays-tidy f h a x i = inl (h a x i)

pub stays-steady : (f : Rest → Rest) → Stays f → IsSteady (λ moment. f)
stays-steady f h vs p early a n = sym (lifted-none p (f a) (λ x i e. let m = h a x i in n m.0 m.1 (m.2 ∙ e)))

freed-stays : (s : Step) (k : ℕ) (old : Rest) (x : Rest) → place_of old ≡ s.place → Has (acts (freed s k)) x → (place_of old ≡ place_of x)
freed-stays s zero old x e i = absurd i
freed-stays s (suc k) old x e (inl q) = e ∙ ap place_of q
freed-stays s (suc k) old x e (inr i) = absurd i

pub sent-stays : (c : Command) → Stays (sent c)
sent-stays c (ready s w k) x i = (x, i, refl)
sent-stays c (asking s w k) x i = (x, i, refl)
sent-stays c (open_act s r) x i = (x, i, refl)
sent-stays c (live s y t) x (inl e) = (live s y t, inl refl, ap place_of e)
sent-stays c (live s y t) x (inr i) = absurd i
sent-stays c (freeing s k) x i = (x, i, refl)
sent-stays c (in_seq r cs) x i = (x, i, refl)
sent-stays c (in_par rs) x i = (x, i, refl)
sent-stays c (in_loop m d b r) x i = (x, i, refl)
sent-stays c done x i = (x, i, refl)

pub released-stays : Stays released
released-stays (ready s w k) x (inl e) = (ready s w k, inl refl, ap place_of e)
released-stays (ready s w k) x (inr i) = absurd i
released-stays (asking s w k) x i = (x, i, refl)
released-stays (open_act s r) x i = (open_act s r, inl refl, freed-stays s (pred (length s.needs)) (open_act s r) x refl i)
released-stays (live s y t) x i = (x, i, refl)
released-stays (freeing s k) x i = (freeing s k, inl refl, freed-stays s (pred k) (freeing s k) x refl i)
released-stays (in_seq r cs) x i = (x, i, refl)
released-stays (in_par rs) x i = (x, i, refl)
released-stays (in_loop m d b r) x i = (x, i, refl)
released-stays done x i = (x, i, refl)

pub ended-stays : Stays ended
ended-stays (ready s w k) x i = (x, i, refl)
ended-stays (asking s w k) x i = (x, i, refl)
ended-stays (open_act s r) x i = (open_act s r, inl refl, freed-stays s (length s.needs) (open_act s r) x refl i)
ended-stays (live s y t) x i = (live s y t, inl refl, freed-stays s (length s.needs) (live s y t) x refl i)
ended-stays (freeing s k) x i = (x, i, refl)
ended-stays (in_seq r cs) x i = (x, i, refl)
ended-stays (in_par rs) x i = (x, i, refl)
ended-stays (in_loop m d b r) x i = (x, i, refl)
ended-stays done x i = (x, i, refl)

pub asked-stays : Stays asked
asked-stays (ready s w k) x (inl e) = (ready s w k, inl refl, ap place_of e)
asked-stays (ready s w k) x (inr i) = absurd i
asked-stays (asking s w k) x i = (x, i, refl)
asked-stays (open_act s r) x i = (x, i, refl)
asked-stays (live s y t) x i = (x, i, refl)
asked-stays (freeing s k) x i = (x, i, refl)
asked-stays (in_seq r cs) x i = (x, i, refl)
asked-stays (in_par rs) x i = (x, i, refl)
asked-stays (in_loop m d b r) x i = (x, i, refl)
asked-stays done x i = (x, i, refl)

pub granted-stays : Stays granted
granted-stays (ready s w k) x i = (x, i, refl)
granted-stays (asking s w k) x (inl e) = (asking s w k, inl refl, ap place_of e)
granted-stays (asking s w k) x (inr i) = absurd i
granted-stays (open_act s r) x i = (x, i, refl)
granted-stays (live s y t) x i = (x, i, refl)
granted-stays (freeing s k) x i = (x, i, refl)
granted-stays (in_seq r cs) x i = (x, i, refl)
granted-stays (in_par rs) x i = (x, i, refl)
granted-stays (in_loop m d b r) x i = (x, i, refl)
granted-stays done x i = (x, i, refl)

now-stays : (now : State) → Stays (phase_after (Now now))
now-stays now (ready s w k) x i = (x, i, refl)
now-stays now (asking s w k) x i = (x, i, refl)
now-stays now (open_act s r) x i = (x, i, refl)
now-stays now (live s y t) x (inl e) = (live s y t, inl refl, ap place_of e)
now-stays now (live s y t) x (inr i) = absurd i
now-stays now (freeing s k) x i = (x, i, refl)
now-stays now (in_seq r cs) x i = (x, i, refl)
now-stays now (in_par rs) x i = (x, i, refl)
now-stays now (in_loop m d b r) x i = (x, i, refl)
now-stays now done x i = (x, i, refl)

pub phase_after-stays : (e : ReportOutcome) → Stays (phase_after e)
phase_after-stays Ended a x i = ended-stays a x i
phase_after-stays (Now now) a x i = now-stays now a x i
phase_after-stays Same a x i = (x, i, refl)

-- A begin reaches a chart, in which acts may hold in advance

pub begun-steady : IsSteady begun
begun-steady vs p early (ready s (runs y) k) n = refl
begun-steady vs p early (ready s (follows name c) k) n = ap (open_act s) (reach-lifted vs p early c)
begun-steady vs p early (asking s w k) n = sym (lifted-none p (asking s w k) n)
begun-steady vs p early (open_act s r) n = sym (lifted-none p (open_act s r) n)
begun-steady vs p early (live s y t) n = sym (lifted-none p (live s y t) n)
begun-steady vs p early (freeing s k) n = sym (lifted-none p (freeing s k) n)
begun-steady vs p early (in_seq r cs) n = sym (lifted-none p (in_seq r cs) n)
begun-steady vs p early (in_par rs) n = sym (lifted-none p (in_par rs) n)
begun-steady vs p early (in_loop m d b r) n = sym (lifted-none p (in_loop m d b r) n)
begun-steady vs p early done n = sym (lifted-none p done n)

pub begun-tidy : (vs : ValueList) → IsTidy (begun (at_moment vs []))
begun-tidy vs (ready s (runs y) k) x (inl e) = inl (ready s (runs y) k, inl refl, ap place_of e)
begun-tidy vs (ready s (runs y) k) x (inr i) = absurd i
begun-tidy vs (ready s (follows name c) k) x (inl e) = inl (ready s (follows name c) k, inl refl, ap place_of e)
begun-tidy vs (ready s (follows name c) k) x (inr i) = inr (reach-fresh vs c x i)
begun-tidy vs (asking s w k) x i = inl (x, i, refl)
begun-tidy vs (open_act s r) x i = inl (x, i, refl)
begun-tidy vs (live s y t) x i = inl (x, i, refl)
begun-tidy vs (freeing s k) x i = inl (x, i, refl)
begun-tidy vs (in_seq r cs) x i = inl (x, i, refl)
begun-tidy vs (in_par rs) x i = inl (x, i, refl)
begun-tidy vs (in_loop m d b r) x i = inl (x, i, refl)
begun-tidy vs done x i = inl (x, i, refl)
