-- The effect of one more line on the units that are told to be kept, and on those that are told to be held.
use Rattle.std.proofs.Common.{◌≡◌, refl, sym, ◌∙◌, ap, subst, ℕ, List, [], ◌∷◌, ◌++◌, Bool, true, false, nat_eq, inl}
use Rattle.std.{proofs.lemmas.List.Sums.fold-append, specs.Prelude.⊤}
use Rattle.batch_matrix.specs.declared.command.Command.TheVariants.{Stop, Abort}
use Rattle.batch_recipe.specs.{Conditions.Name, Conditions.same_name, declared.need.Need.Need, Tree.Place, Tree.Tree}
use Rattle.batch_model.{specs.Events.ordered, specs.Lists.Has, specs.Moves.release, specs.Moves.pass, specs.Moves.begin, specs.Moves.start, specs.Moves.grant, specs.Moves.batch_of, specs.Plant.BatchAct, specs.Plant.Share, specs.Plant.acts_in, specs.Plant.without, specs.Plant.with_share, specs.Plant.without_share, specs.Records.holders_after, specs.Records.holders_told, specs.Runs.Out, specs.Runs.reply, specs.Runs.move, specs.Transfers.Kept, specs.Transfers.without_begun, specs.Transfers.kept_until, specs.Transfers.passed_by, specs.Transfers.passed_told, specs.Transfers.reserved_from, specs.Transfers.reserved_told, proofs.Members.Has-left, proofs.Members.Has-right}
use Rattle.batch_step_laws.proofs.LastLineEffect.{holders_told-last}
use Rattle.batch_record_laws.proofs.{Entries.nat_differs, Entries.without-Has, Members.Has-map, Members.map-Has}

-- Lines

pub passed_told-last : (n : ℕ) (outs : List Out) (o : Out) → passed_told n (outs ++ o ∷ []) ≡ passed_by n o ++ kept_until n (passed_told n outs) o
passed_told-last n outs o = fold-append (λ kept out. passed_by n out ++ kept_until n kept out) [] outs (o ∷ [])

pub reserved_told-last : (n : ℕ) (c : Tree) (outs : List Out) (o : Out) → reserved_told n c (outs ++ o ∷ []) ≡ reserved_from n c o ++ kept_until n (reserved_told n c outs) o
reserved_told-last n c outs o = fold-append (λ kept out. reserved_from n c out ++ kept_until n kept out) [] outs (o ∷ [])

-- the line keeps the units of the batch with this number, and no more: it is of another one, or no command that ends that
abbrev pub IsOfOther : ℕ → Out → Type 0
IsOfOther n (move made) = batch_of made ≡ n → ⊥
IsOfOther n (reply (ordered Stop batch becomes)) = batch ≡ n → ⊥
IsOfOther n (reply (ordered Abort batch becomes)) = batch ≡ n → ⊥
IsOfOther n _ = ⊤

either : {X : Type 0} (t : Bool) (one other : X) → t ≡ false → elim t [ true ↦ one | false ↦ other ] ≡ other
either true one other e = let bad : true ≡ false = e in absurd cc
either false one other e = refl

pub others-kept : (n : ℕ) (o : Out) → IsOfOther n o → (kept : List Kept) → kept_until n kept o ≡ kept
others-kept n (move (begin batch place name)) other kept = either (nat_eq batch n) (without_begun place kept) kept (nat_differs batch n other)
others-kept n (reply (ordered Stop batch becomes)) other kept = either (nat_eq batch n) [] kept (nat_differs batch n other)
others-kept n (reply (ordered Abort batch becomes)) other kept = either (nat_eq batch n) [] kept (nat_differs batch n other)
others-kept n o other kept = refl

pub others-pass : (n : ℕ) (o : Out) → IsOfOther n o → passed_by n o ≡ []
others-pass n (move (pass batch place to need)) other = either (nat_eq batch n) (record { place = to; unit = need.resource } ∷ []) [] (nat_differs batch n other)
others-pass n o other = refl

pub others-reserve : (n : ℕ) (c : Tree) (o : Out) → IsOfOther n o → reserved_from n c o ≡ []
others-reserve n c (move (begin batch place name)) other = either (nat_eq batch n) _ [] (nat_differs batch n other)
others-reserve n c (move (start batch place phase handed)) other = either (nat_eq batch n) _ [] (nat_differs batch n other)
others-reserve n c o other = refl

pub passed_told-others : (n : ℕ) (outs : List Out) (o : Out) → IsOfOther n o → passed_told n (outs ++ o ∷ []) ≡ passed_told n outs
passed_told-others n outs o other =
    passed_told-last n outs o ∙ (ap (λ xs. xs ++ kept_until n (passed_told n outs) o) (others-pass n o other) ∙ others-kept n o other (passed_told n outs))

pub reserved_told-others : (n : ℕ) (c : Tree) (outs : List Out) (o : Out) → IsOfOther n o → reserved_told n c (outs ++ o ∷ []) ≡ reserved_told n c outs
reserved_told-others n c outs o other =
    reserved_told-last n c outs o
    ∙ (ap (λ xs. xs ++ kept_until n (reserved_told n c outs) o) (others-reserve n c o other) ∙ others-kept n o other (reserved_told n c outs))

-- Who holds

-- the record tells that the batch holds units of the resource at the place
abbrev pub Holds : List Out → Name → ℕ → Place → Type 0
Holds outs unit n p = Has (acts_in (holders_told outs unit)) (n, p)

with-stays : (unit : Name) (b : BatchAct) (r : Need) (hs : List Share) (a : BatchAct) → Has (acts_in hs) a → Has (acts_in (with_share unit b r hs)) a
with-stays unit b r hs a h = go (same_name unit r.resource)
  where
    go : (t : Bool) → Has (acts_in (elim t [ true ↦ hs ++ record { act = b; units = r.units } ∷ [] | false ↦ hs ])) a
    go true =
        let m = Has-map (λ (z : Share). z.act) hs a h in
        let added : List Share = record { act = b; units = r.units } ∷ [] in
        subst (Has (acts_in (hs ++ added))) m.2 (map-Has (λ (z : Share). z.act) (hs ++ added) m.0 (Has-left hs added m.0 m.1))
    go false = h

pub with-joins : (unit : Name) (b : BatchAct) (r : Need) (hs : List Share) → same_name unit r.resource ≡ true → Has (acts_in (with_share unit b r hs)) b
with-joins unit b r hs e = go (same_name unit r.resource) e
  where
    go : (t : Bool) → t ≡ true → Has (acts_in (elim t [ true ↦ hs ++ record { act = b; units = r.units } ∷ [] | false ↦ hs ])) b
    go true q =
        let added : Share = record { act = b; units = r.units } in
        map-Has (λ (z : Share). z.act) (hs ++ added ∷ []) added (Has-right hs (added ∷ []) added (inl refl))
    go false q = let bad : false ≡ true = q in absurd cc

without-stays : (unit : Name) (b : BatchAct) (r : Need) (hs : List Share) (a : BatchAct) → (same_name unit r.resource ≡ true → a ≡ b → ⊥) → Has (acts_in hs) a
    → Has (acts_in (without_share unit b r hs)) a
without-stays unit b r hs a not_so h = go (same_name unit r.resource) refl
  where
    go : (t : Bool) → same_name unit r.resource ≡ t → Has (acts_in (elim t [ true ↦ without b hs | false ↦ hs ])) a
    go true e =
        let m = Has-map (λ (z : Share). z.act) hs a h in
        subst (Has (acts_in (without b hs))) m.2 (map-Has (λ (z : Share). z.act) (without b hs) m.0 (without-Has b hs m.0 m.1 (λ q. not_so e (sym m.2 ∙ q))))
    go false e = h

-- the line takes units of the resource from the batch at the place
abbrev pub Takes : Name → ℕ → Place → Out → Type 0
Takes unit n p (move (release batch place need)) = (batch ≡ n) × (place ≡ p) × (same_name unit need.resource ≡ true)
Takes unit n p (move (pass batch place to need)) = (batch ≡ n) × (place ≡ p) × (same_name unit need.resource ≡ true)
Takes unit n p _ = ⊥

same_act : (n m : ℕ) (p q : Place) → ◌≡◌ {A = BatchAct} (n, p) (m, q) → (m ≡ n) × (q ≡ p)
same_act n m p q e = (ap (λ z. z.0) (sym e), ap (λ z. z.1) (sym e))

-- units are held on until a line takes them
pub still-held : (outs : List Out) (o : Out) (unit : Name) (n : ℕ) (p : Place) → (Takes unit n p o → ⊥) → Holds outs unit n p → Holds (outs ++ o ∷ []) unit n p
still-held outs o unit n p not_so h = subst (λ hs. Has (acts_in hs) (n, p)) (sym (holders_told-last outs o unit)) (go o not_so)
  where
    go : (o : Out) → (Takes unit n p o → ⊥) → Has (acts_in (holders_after unit (holders_told outs unit) o)) (n, p)
    go (move (grant batch place need)) none = with-stays unit (batch, place) need (holders_told outs unit) (n, p) h
    go (move (release batch place need)) none =
        without-stays unit (batch, place) need (holders_told outs unit) (n, p) (λ named e. let s = same_act n batch p place e in none (s.0, s.1, named)) h
    go (move (pass batch place to need)) none =
        with-stays unit (batch, to) need (without_share unit (batch, place) need (holders_told outs unit)) (n, p)
        (without-stays unit (batch, place) need (holders_told outs unit) (n, p) (λ named e. let s = same_act n batch p place e in none (s.0, s.1, named)) h)
    go o none = h

-- the place to which a unit is passed holds it
pub held-passed : (outs : List Out) (n : ℕ) (p to : Place) (r : Need) (unit : Name) → same_name unit r.resource ≡ true → Holds (outs ++ move (pass n p to r) ∷ []) unit n to
held-passed outs n p to r unit named =
    subst (λ hs. Has (acts_in hs) (n, to)) (sym (holders_told-last outs (move (pass n p to r)) unit))
    (with-joins unit (n, to) r (without_share unit (n, p) r (holders_told outs unit)) named)
