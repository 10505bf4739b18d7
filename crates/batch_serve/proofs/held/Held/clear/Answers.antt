use Rattle.batch_serve.proofs.HeldText.{cleared_all, cleared_fits, cleared_passed, cleared_rest}
use Rattle.batch_serve.proofs.held.Held.clear.Goals as goal

pub invariant_of-self : goal.invariant_of-self
invariant_of-self g c =
    let now = c.args.self.now in
    let held = c.as_slice.result.now in
    let stop = c.want_or_end-end in
    record {
      within = cleared_fits now.held.items held now.cleared stop.result.0 c.whole_len-len.result c.as_slice.ensures.value now.within stop.ensures.stops c.whole_len-len.ensures;
      told = cleared_passed now.held.items held now.cleared stop.result.0 c.whole_len-len.result c.as_slice.ensures.value now.within stop.ensures.stops c.whole_len-len.ensures _ _ now.told;
    }

pub returns-clause-rest : goal.returns-clause-rest
returns-clause-rest g c =
    let now = c.args.self.now in
    let held = c.as_slice.result.now in
    let stop = c.want_or_end-end in
    cleared_rest now.held.items held now.cleared stop.result.0 c.whole_len-len.result c.as_slice.ensures.value now.within stop.ensures.stops c.whole_len-len.ensures

pub returns-clause-none : goal.returns-clause-none
returns-clause-none g c = λ none.
    let now = c.args.self.now in
    let held = c.as_slice.result.now in
    let stop = c.want_or_end-end in
    cleared_all now.held.items held now.cleared stop.result.0 c.whole_len-len.result c.as_slice.ensures.value now.within stop.ensures.stops c.whole_len-len.ensures (stop.ensures.end none)
