use Rattle.std.proofs.Common.{◌≡◌, ◌≤◌, ℕ, pos, false, List, [], Some, None, sym, inl, inr, refl, codes, arith, lit≤, ◌∙◌}
use Rattle.std.{proofs.lemmas.Bool.false≢true, specs.Borrow.Bor, specs.List.IsDistinct}
use Rattle.toml.specs.Data.{Members, no_members, member, integer, string}
use Rattle.batch_text.specs.NameText.{IsName}
use Rattle.batch_reader.{specs.Entries.HasName, specs.Keys.is_known, specs.declared.fault.EntryFault.TheVariants.OutOfLimit, specs.declared.keys.TheConstants.MAX_LAG, proofs.DeskRefusals.missing_refused, proofs.DeskRefusals.name_refused, proofs.DeskRefusals.none_first, proofs.DeskRefusals.number_refused, proofs.DeskRefusals.optional_name_refused, proofs.DeskRefusals.path_refused, proofs.DeskRefusals.truth_refused, specs.DesksDocument.HasPath, specs.DesksFaults.IsDeskFault, specs.RowsOfDesks.console, specs.RowsOfDesks.lag_of, specs.RowsOfDesks.named}
use Rattle.batch_reader.proofs.desk_laws.worked_desks.Goals as goal

is_name : IsName (codes "CONSOLE")
is_name = record { spelled = refl; short = lit≤ tt }

has_name : (more : Members) → HasName (codes "name") (named more) (codes "CONSOLE")
has_name more = record { text = refl; valid = is_name }

has_input : (more : Members) → HasPath (codes "input") (console more) (codes "in")
has_input more = record { text = record { found = refl; short = lit≤ tt }; some = lit≤ tt }

pub returns-clause-console : goal.returns-clause-console
unfolding is_known
returns-clause-console c = λ desk is lag. record {
  keys = refl;
  name = rw (is.name) (has_name (member (codes "input") (string (codes "in")) no_members));
  input = rw (is.input) (has_input no_members);
  output = rw (is.no_output) refl;
  some_way = refl;
  unit = rw (is.all_units) refl;
  stays = rw (is.ends) refl;
  lag = inr (refl, lag);
}

pub returns-clause-no_other_lag : goal.returns-clause-no_other_lag
returns-clause-no_other_lag c = λ desk lag h. elim h.lag [ inl has ↦ cc has.integer | inr usual ↦ omega (arith, lag, usual.1) ]

pub returns-clause-no_stay : goal.returns-clause-no_stay
returns-clause-no_stay c = λ desk stays h. let is = rw stays at h.stays in cc is

pub returns-clause-stay : goal.returns-clause-stay
returns-clause-stay c = λ desk stays h. let is = rw stays at h.stays in cc is

pub returns-clause-nothing_wrong : goal.returns-clause-nothing_wrong
unfolding is_known
returns-clause-nothing_wrong c = λ wrong.
    none_first (λ w. false≢true (sym w.1))
    (none_first (name_refused (codes "name") (console no_members) wrong (codes "CONSOLE") (has_name (member (codes "input") (string (codes "in")) no_members)))
    (none_first (path_refused (codes "input") (console no_members) wrong (Some (codes "in")) (has_input no_members))
    (none_first (path_refused (codes "output") (console no_members) wrong None refl)
    (none_first (λ w. false≢true (sym w.1))
    (none_first (optional_name_refused (codes "unit") (console no_members) wrong None refl)
    (none_first (truth_refused (codes "stays") (console no_members) wrong false refl)
    (missing_refused (codes "lag") (console no_members) 1 MAX_LAG wrong refl)))))))

pub returns-clause-one_way : goal.returns-clause-one_way
unfolding is_known
returns-clause-one_way c = (
  inr (refl, inr ((codes "CONSOLE", has_name no_members), inr ((None, refl), inr ((None, refl), inl (refl, refl))))),
  λ wrong other. none_first (λ w. false≢true (sym w.1))
      (none_first (name_refused (codes "name") (named no_members) wrong (codes "CONSOLE") (has_name no_members))
      (none_first (path_refused (codes "input") (named no_members) wrong None refl)
      (none_first (path_refused (codes "output") (named no_members) wrong None refl)
      (none_first (λ w. other w.0)
      (none_first (optional_name_refused (codes "unit") (named no_members) wrong None refl)
      (none_first (truth_refused (codes "stays") (named no_members) wrong false refl)
      (missing_refused (codes "lag") (named no_members) 1 MAX_LAG wrong refl))))))),
)

pub returns-clause-unknown_first : goal.returns-clause-unknown_first
unfolding is_known
returns-clause-unknown_first c = (inl (refl, refl), λ key h. elim h [ inl w ↦ cc w.0 | inr p ↦ false≢true p.0 ])

-- the keys before the lag of a console are right
lag_wrong : (key : Bor (List ℕ)) → key.now ≡ codes "lag" → (lines : ℕ) → ((n : ℕ) → pos lines ≡ pos n → 1 ≤ n → n ≤ MAX_LAG → ⊥) → IsDeskFault (lag_of lines) (OutOfLimit (Some key))
unfolding is_known
lag_wrong key is lines outside =
    inr (
      refl,
      inr (
        (codes "CONSOLE", has_name (member (codes "input") (string (codes "in")) (member (codes "lag") (integer (pos lines)) no_members))),
        inr (
          (Some (codes "in"), has_input (member (codes "lag") (integer (pos lines)) no_members)),
          inr (
            (None, refl),
            inr (
              refl,
              inr (
                (None, refl),
                inr (
                  (false, refl),
                  (is, record { here = integer (pos lines); found = refl; fits = record { integer = pos lines; found = refl; outside = outside } }),
                ),
              ),
            ),
          ),
        ),
      ),
    )

same_number : (m n : ℕ) → pos m ≡ pos n → m ≡ n
same_number m n e = cc e

pub returns-clause-lag : goal.returns-clause-lag
returns-clause-lag c = λ key is_lag. (
  lag_wrong key is_lag 0 (λ n is some few. omega (arith, same_number 0 n is, some)),
  lag_wrong key is_lag 65537 (λ n is some few. omega (arith, same_number 65537 n is, few)),
  none_first (λ w. cc w.0)
      (none_first (name_refused (codes "name") (lag_of 65536) (OutOfLimit (Some key)) (codes "CONSOLE") (has_name (member (codes "input") (string (codes "in")) (member (codes "lag") (integer (pos 65536)) no_members))))
      (none_first (path_refused (codes "input") (lag_of 65536) (OutOfLimit (Some key)) (Some (codes "in")) (has_input (member (codes "lag") (integer (pos 65536)) no_members)))
      (none_first (path_refused (codes "output") (lag_of 65536) (OutOfLimit (Some key)) None refl)
      (none_first (λ w. cc w.0)
      (none_first (optional_name_refused (codes "unit") (lag_of 65536) (OutOfLimit (Some key)) None refl)
      (none_first (truth_refused (codes "stays") (lag_of 65536) (OutOfLimit (Some key)) false refl)
      (number_refused (codes "lag") (lag_of 65536) 1 MAX_LAG (OutOfLimit (Some key)) 65536 (record { integer = refl; at_least = lit≤ tt; at_most = lit≤ tt })))))))),
)

pub returns-clause-path : goal.returns-clause-path
returns-clause-path c = λ key is. (
  (is, record { here = string []; found = refl; fits = record { text = []; found = refl; fits = λ some short. omega (arith, some) } }),
  path_refused (codes "input") (member (codes "input") (string (codes "i")) no_members) (OutOfLimit (Some key)) (Some (codes "i"))
      (record { text = record { found = refl; short = lit≤ tt }; some = lit≤ tt }),
  (is, record { here = integer (pos 1); found = refl; fits = refl }),
)

pub returns-clause-path_named : goal.returns-clause-path_named
returns-clause-path_named c = (λ key is h. let same : codes "output" ≡ codes "input" = sym is ∙ h.0 in cc same, λ h. h.0)

pub returns-clause-no_desk : goal.returns-clause-no_desk
returns-clause-no_desk c = (record { unknown = refl; first = refl; told = refl }, λ h. false≢true (sym h.unknown))

pub returns-clause-too_few : goal.returns-clause-too_few
returns-clause-too_few c =
    ((refl, inl (lit≤ tt, refl)), λ h. elim h.1 [ inl few ↦ omega (arith, few.1) | inr many ↦ omega (arith, many.0) ], λ key h. cc h.0)

pub returns-clause-second_name : goal.returns-clause-second_name
unfolding IsDistinct
returns-clause-second_name c = λ one two key first second at_name. (
  (at_name, record { before = (tt, tt); fails = λ h. let apart = rw (first, second) at h.0.0 in cc apart }),
  λ h. h.1.fails (tt, tt),
)

pub returns-clause-other_names : goal.returns-clause-other_names
unfolding IsDistinct
returns-clause-other_names c = λ one two first second. ((rw (first, second) refl, tt), (tt, tt))

pub returns-clause-looked_up : goal.returns-clause-looked_up
returns-clause-looked_up c = λ desk unit all. grind arith

pub returns-clause-found : goal.returns-clause-found
returns-clause-found c = λ desk unit. grind arith

pub returns-clause-all_units : goal.returns-clause-all_units
returns-clause-all_units c = λ desk unit. grind arith
