use Rattle.std.proofs.Common.{rules, arith, ◌≡◌, ◌+◌, ◌∙◌, ap, subst}
use Rattle.batch_chart.{specs.Most.Needs, specs.Most.Units, specs.Most.count_of, specs.Most.is_par, specs.Most.joined, specs.Most.most_of, specs.Most.own_of, proofs.ActTotals.joined-few, proofs.ActTotals.none-counted, proofs.ActTotals.none-few, proofs.ActTotals.row-more, proofs.ActTotals.row-none, proofs.ActTotals.some-row}
use Rattle.batch_chart.proofs.most.+most_among.Goals as goal

pub bounds-nodes-n : goal.bounds-nodes-n
bounds-nodes-n t c = (some-row _ _ _ _ c.if-n-end.false (c.requires.standing.1, c.requires.standing.2)).within

pub offset_bounds-nodes-n : goal.offset_bounds-nodes-n
offset_bounds-nodes-n t c = let h = (some-row _ _ _ _ c.if-n-end.false (c.requires.standing.1, c.requires.standing.2)).within in search rules

pub overflow_cast-next : goal.overflow_cast-next
overflow_cast-next t c = let h = (some-row _ _ _ _ c.if-n-end.false (c.requires.standing.1, c.requires.standing.2)).fits in omega (arith, h, c.requires.small)

pub overflow_add-n : goal.overflow_add-n
overflow_add-n t c = let h = (some-row _ _ _ _ c.if-n-end.false (c.requires.standing.1, c.requires.standing.2)).within in omega (arith, h, c.requires.small)

pub most_among-below-requires : goal.most_among-below-requires
most_among-below-requires t c =
    let row = some-row _ _ _ _ c.if-n-end.false (c.requires.standing.1, c.requires.standing.2) in
    (omega (arith, row.within, c.decreases), ((c.requires.standing.0, row.below.0, row.below.1), (none-few _, c.requires.small)))

pub join-own-requires : goal.join-own-requires
join-own-requires t c =
    let row = some-row _ _ _ _ c.if-n-end.false (c.requires.standing.1, c.requires.standing.2) in (
      omega (arith, row.fits, row.after, c.requires.small, c.most_among-below.ensures.few Needs, c.counts_of.ensures.few Needs),
      omega (arith, row.fits, row.after, c.requires.small, c.most_among-below.ensures.few Units, c.counts_of.ensures.few Units),
    )

pub join-most-requires : goal.join-most-requires
join-most-requires t c =
    let row = some-row _ _ _ _ c.if-n-end.false (c.requires.standing.1, c.requires.standing.2) in (
      omega (arith, row.fits, row.after, c.requires.small, c.requires.few Needs, c.most_among-below.ensures.few Needs, c.counts_of.ensures.few Needs, c.join-own.ensures Needs),
      omega (arith, row.fits, row.after, c.requires.small, c.requires.few Units, c.most_among-below.ensures.few Units, c.counts_of.ensures.few Units, c.join-own.ensures Units),
    )

pub most_among-requires : goal.most_among-requires
most_among-requires t c =
    let row = some-row _ _ _ _ c.if-n-end.false (c.requires.standing.1, c.requires.standing.2) in (
      omega (arith, row.within, row.after, c.decreases),
      (
        (c.requires.standing.0, row.rest.0, row.rest.1),
        (
          λ counted. omega (
            arith,
            row.fits,
            row.after,
            c.requires.few counted,
            c.most_among-below.ensures.few counted,
            none-counted counted,
            c.counts_of.ensures.few counted,
            c.join-own.ensures counted,
            joined-few c.args.nodes.now c.requires.standing.0 c.args.together (count_of counted c.args.before) (count_of counted c.join-own.result),
            c.join-most.ensures counted,
          ),
          c.requires.small,
        ),
      ),
    )

pub returns-then-n-end-clause-most : goal.returns-then-n-end-clause-most
returns-then-n-end-clause-most t c = λ counted doc ts h. row-none _ doc _ counted _ _ _ c.if-n-end.true ts h

pub returns-then-n-end-clause-few : goal.returns-then-n-end-clause-few
returns-then-n-end-clause-few t c = λ counted. omega (arith, c.if-n-end.true)

pub returns-clause-most : goal.returns-clause-most
returns-clause-most t c = λ counted doc ts h.
    let par = c.is_par.ensures ∙ ap is_par c.kind_of-kind.ensures in
    let below = count_of counted c.most_among-below.result in
    let most =
    c.join-most.ensures counted
    ∙ ap (joined c.args.together (count_of counted c.args.before)) (c.join-own.ensures counted ∙ ap (λ k. k + below) (c.counts_of.ensures.own counted ∙ ap (own_of counted) c.kind_of-kind.ensures)) in
    row-more c.args.nodes.now doc c.args.together counted (count_of counted c.args.before) below (count_of counted c.most_among.result) c.args.n c.args.end c.if-n-end.false
    (λ us a. subst (λ b. below ≡ joined b 0 (most_of b counted us)) par (c.most_among-below.ensures.most counted doc us a ∙ ap (λ k. joined c.is_par.result k (most_of c.is_par.result counted us)) (none-counted counted)))
    (λ us a. subst (λ k. count_of counted c.most_among.result ≡ joined c.args.together k (most_of c.args.together counted us)) most (c.most_among.ensures.most counted doc us a)) ts h

pub returns-clause-few : goal.returns-clause-few
returns-clause-few t c = λ counted.
    let row = some-row _ _ _ _ c.if-n-end.false (c.requires.standing.1, c.requires.standing.2) in
    omega (
      arith,
      row.after,
      joined-few c.args.nodes.now c.requires.standing.0 c.args.together (count_of counted c.args.before) (count_of counted c.join-own.result),
      c.join-own.ensures counted,
      c.join-most.ensures counted,
      none-counted counted,
      c.counts_of.ensures.few counted,
      c.most_among-below.ensures.few counted,
      c.most_among.ensures.few counted,
    )
