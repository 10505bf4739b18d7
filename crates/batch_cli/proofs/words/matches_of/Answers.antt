use Rattle.std.proofs.Common.{◌≡◌, map, refl, string_bytes, subst, true}
use Rattle.std.{proofs.lemmas.Result.IfOk-weaker, specs.Result.IfOk}
use Rattle.clap.specs.{Faults.fault_of, Faults.is_simple_and_free, Kinds.FailsBy, Simple.HasMatchesOf}
use Rattle.batch_cli.proofs.words.matches_of.Goals as goal

pub returns-clause-entered : goal.returns-clause-entered
returns-clause-entered c =
    let has = subst (λ app. IfOk c.try_get_matches_from.result (HasMatchesOf app (map string_bytes c.args.words.now)))
    c.in_ok-program.ensures c.try_get_matches_from.ensures.matches in
    IfOk-weaker c.try_get_matches_from.result _ _ (λ matches are. (are refl).1) has

pub returns-clause-kinds : goal.returns-clause-kinds
returns-clause-kinds c = subst
    (λ app. is_simple_and_free app ≡ true → FailsBy (fault_of app (map string_bytes c.args.words.now)) c.try_get_matches_from.result)
    c.in_ok-program.ensures c.try_get_matches_from.ensures.kinds refl
