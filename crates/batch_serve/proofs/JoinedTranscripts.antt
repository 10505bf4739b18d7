-- Transcripts that meet in one plant.
use Rattle.std.proofs.Common.{[], ◌∷◌, sym, ◌∙◌, ap, subst}
use Rattle.batch_model.specs.Plant.{Plant}
use Rattle.batch_wire.specs.Transcript.{Exchange, followed_by, Transcript}
use Rattle.batch_serve.{specs.Joined.TranscriptsJoin, proofs.Exchanges.followed-assoc}

pub transcripts_join : TranscriptsJoin
transcripts_join c old mid new [] others said told one other =
    subst (λ (x : Exchange). Transcript c old others x new) (sym (ap (λ (x : Exchange). followed_by x told) one.0))
    (subst (λ (p : Plant). Transcript c p others told new) one.1 other)
transcripts_join c old mid new (line ∷ front) others said told (first, rest, one, answers, on, is) other = (
  first,
  followed_by rest told,
  one,
  answers,
  transcripts_join c one mid new front others rest told on other,
  ap (λ (x : Exchange). followed_by x told) is ∙ followed-assoc first rest told,
)
