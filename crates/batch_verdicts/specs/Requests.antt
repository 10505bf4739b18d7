-- trusted: the outcome of a request: the printed text, the set that is to be served, or the reason why there is none.
use Rattle.std.specs.Prelude.{◌≡◌, List, ℕ, [], ◌∷◌}
use Rattle.batch_verify.specs.ClearedSet.{ClearedSet}
use Rattle.batch_cli.specs.CommandLine.{Judgement, check, draw, verify, SetSource, demo, documents, Request, judge, serve, tell, audit, plant, explain, show, keep, write, remark, picture, serve_desks}
use Rattle.batch_verdicts.specs.DemoDocuments.{demo_text}
use Rattle.batch_verdicts.specs.DeskSets.{HaltsDesks}
use Rattle.batch_verdicts.specs.Every.{HaltsChecking, HaltsDrawing}
use Rattle.batch_verdicts.specs.Halting.{HaltsAtDocuments, HaltsClearing, HaltsVerifying}
use Rattle.batch_verdicts.specs.Reading.{AreCleared, ChecksDocuments, DrawsDocuments, Gives, VerifiesDocuments, Warns, ShowsDocuments}
use Rattle.batch_verdicts.specs.declared.demo.TheConstants.{CELL_PATH, CERTIFICATE_PATH, RECIPE_PATH}
use Rattle.batch_verdicts.specs.declared.refusal.Halt.{Halt}

-- the results of reading the demo's documents
abbrev pub demo_gives : Gives
demo_gives path reading = reading ≡ demo_text path

-- the set of the demo, cleared by its certificate
abbrev pub IsDemoSet : ClearedSet → Type 0
IsDemoSet set = AreCleared demo_gives CELL_PATH.now CERTIFICATE_PATH.now (RECIPE_PATH.now ∷ []) set

-- why there is no set of the demo
abbrev pub HaltsDemo : Halt → Type 0
HaltsDemo h = HaltsClearing demo_gives CELL_PATH.now CERTIFICATE_PATH.now (RECIPE_PATH.now ∷ []) h

-- the output if nothing is refused
abbrev pub IsVerdictText : Gives → Warns → Judgement → List ℕ → Type 0
IsVerdictText gives warns (check all cell recipes) text = ChecksDocuments gives warns cell recipes text
IsVerdictText gives warns (draw all cell recipes) text = DrawsDocuments gives warns cell recipes text
IsVerdictText gives warns (verify cell certificate recipes) text = VerifiesDocuments gives warns cell certificate recipes text
IsVerdictText gives warns (show cell recipes) text = ShowsDocuments gives cell recipes text × warns []

-- the set that is to be served, or whose plant is to be run: the demo's, or that of the documents, cleared by their certificate
abbrev pub IsSetOf : Gives → SetSource → ClearedSet → Type 0
IsSetOf gives demo set = IsDemoSet set
IsSetOf gives (documents cell certificate recipes) set = AreCleared gives cell certificate recipes set

-- why there is no verdict, no set to be served or audited over, or none whose plant is run

abbrev pub HaltsJudgement : Gives → Warns → Judgement → Halt → Type 0
HaltsJudgement gives warns (check all cell recipes) h = HaltsChecking all gives warns cell recipes h
HaltsJudgement gives warns (draw all cell recipes) h = HaltsDrawing all gives warns cell recipes h
HaltsJudgement gives warns (verify cell certificate recipes) h = HaltsVerifying gives warns cell certificate recipes h
HaltsJudgement gives warns (show cell recipes) h = HaltsAtDocuments gives cell recipes h × warns []

abbrev pub HaltsSource : Gives → SetSource → Halt → Type 0
HaltsSource gives demo h = HaltsDemo h
HaltsSource gives (documents cell certificate recipes) h = HaltsClearing gives cell certificate recipes h

-- the program warns of documents that are only judged
abbrev pub Halts : Gives → Warns → Request → Halt → Type 0
Halts gives warns (judge judgement) h = HaltsJudgement gives warns judgement h
Halts gives warns (keep journal cell certificate recipes echo times) h = HaltsClearing gives cell certificate recipes h × warns []
Halts gives warns (serve_desks journal path cell certificate recipes times) h = HaltsDesks gives path cell certificate recipes h × warns []
Halts gives warns (write path judgement) h = HaltsJudgement gives warns judgement h
Halts gives warns (serve source) h = HaltsSource gives source h × warns []
Halts gives warns (remark source echo times) h = HaltsSource gives source h × warns []
Halts gives warns (audit beginning path source) h = HaltsSource gives source h × warns []
Halts gives warns (tell path) h = ⊥
Halts gives warns (picture path) h = ⊥
Halts gives warns (plant source batches ticks ring) h = HaltsSource gives source h × warns []
Halts gives warns (explain texts) h = ⊥
