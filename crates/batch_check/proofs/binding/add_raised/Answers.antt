use Rattle.std.proofs.Common.{◌≡◌, ◌∷◌, ◌++◌, ◌+◌, ◌<◌, [], List, get_or, Option, Some, Vec, arith, ℕ, ap, ◌∙◌, length, subst, sym, take}
use Rattle.std.{specs.Global.Global, specs.List.Contains, proofs.lemmas.List.take_all, proofs.lemmas.List.take_more, proofs.lemmas.List.Elements.Contains-get_or}
use Rattle.batch_check.{specs.Collecting.HasRaised, specs.Collecting.HasTakenBy, specs.Collecting.raised, specs.Joining.AreBelow, proofs.EdgesInBindings.HasRaised-more, proofs.EdgesInBindings.HasRaised-none, proofs.EdgesInBindings.HasRaised-start, proofs.EdgesInBindings.HasRaised-then, proofs.EdgesInBindings.raised_below}
use Rattle.batch_check.proofs.binding.add_raised.Goals as goal

abbrev Units : Type 0
Units = Vec (Option ℕ) Global

-- the element that was read at a place is there
read_there : (units : List Units) (index : ℕ) (one : Units) → index < length units → one ≡ get_or units index one → Contains units one
read_there units index one within is = subst (λ (v : Units). Contains units v) (sym is) (Contains-get_or units index one within)

-- so it is the last of those up to there
read_last : (units : List Units) (index : ℕ) (one : Units) → index < length units → one ≡ get_or units index one → take (index + 1) units ≡ take index units ++ one ∷ []
read_last units index one within is = take_more units index one within ∙ ap (λ (v : Units). take index units ++ v ∷ []) (sym is)

pub loop-own-init : goal.loop-own-init
loop-own-init c = HasRaised-none c.args.place c.args.edges.now c.args.units.now c.args.set.now

pub loop-other-init : goal.loop-other-init
loop-other-init c = HasRaised-start c.args.place c.args.edges.now (c.own-item.result ∷ []) c.loop-own.set

pub add_taken-requires : goal.add_taken-requires
add_taken-requires c =
    let units = c.args.units.now in
    let place = c.args.place in
    let own = c.own-item.result in
    let other = c.other-item.result in
    let of_own = c.requires own (read_there units c.loop-own.own-index own c.loop-own-test.true c.own-item.is) in
    let of_other = c.requires other (read_there units c.loop-other.other-index other c.loop-other-test.true c.other-item.is) in
    let below : AreBelow c.args.set.now.count (raised place own.items other.items) = raised_below c.args.set.now.count place own.items other.items of_own.0 of_own.1 of_other.1 in
    let is : c.deref-in-loop-other.result.now ≡ raised place own.items other.items =
    c.deref-in-loop-other.ensures.value ∙ (c.in_ok-taken.ensures ∙ ap (λ (xs : List (Option ℕ)). raised place xs other.items) c.deref.ensures.value) in
    λ k among. omega (arith, below k (subst (λ (ns : List (Option ℕ)). Contains ns (Some k)) is among), c.loop-other.invariant.grown.same_count, c.loop-own.invariant.grown.same_count)

pub loop-other-preserved : goal.loop-other-preserved
loop-other-preserved c =
    let units = c.args.units.now in
    let place = c.args.place in
    let edges = c.args.edges.now in
    let own = c.own-item.result in
    let other = c.other-item.result in
    let is : c.deref-in-loop-other.result.now ≡ raised place own.items other.items =
    c.deref-in-loop-other.ensures.value ∙ (c.in_ok-taken.ensures ∙ ap (λ (xs : List (Option ℕ)). raised place xs other.items) c.deref.ensures.value) in
    subst (λ (others : List Units). HasRaised place (own ∷ []) others edges c.loop-own.set c.add_taken.new.set) (sym (read_last units c.loop-other.other-index other c.loop-other-test.true c.other-item.is))
    (HasRaised-more place edges own (take c.loop-other.other-index units) other c.loop-own.set c.loop-other.set c.add_taken.new.set c.loop-other.invariant
    (subst (λ (us : List (Option ℕ)). HasTakenBy us edges c.loop-other.set c.add_taken.new.set) is c.in_ok-add_taken.ensures))

pub loop-own-preserved : goal.loop-own-preserved
loop-own-preserved c =
    let units = c.args.units.now in
    let place = c.args.place in
    let edges = c.args.edges.now in
    let own = c.own-item.result in
    subst (λ (owns : List Units). HasRaised place owns units edges c.args.set.now c.loop-other.set) (sym (read_last units c.loop-own.own-index own c.loop-own-test.true c.own-item.is))
    (HasRaised-then place edges (take c.loop-own.own-index units) own units c.args.set.now c.loop-own.set c.loop-other.set c.loop-own.invariant
    (subst (λ (others : List Units). HasRaised place (own ∷ []) others edges c.loop-own.set c.loop-other.set) (take_all c.loop-other.other-index units c.loop-other-test.false) c.loop-other.invariant))

pub returns : goal.returns
returns c =
    subst (λ (owns : List Units). HasRaised c.args.place owns c.args.units.now c.args.edges.now c.args.set.now c.loop-own.set)
    (take_all c.loop-own.own-index c.args.units.now c.loop-own-test.false) c.loop-own.invariant
