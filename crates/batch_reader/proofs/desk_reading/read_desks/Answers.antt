use Rattle.std.proofs.Common.{◌≡◌, ℕ, List, Some, ap, inl, inr, subst, refl}
use Rattle.std.proofs.lemmas.Result.{err_from_is_err_and}
use Rattle.toml.specs.{Data.Members, Parse.parse_document, View.table_view}
use Rattle.batch_reader.specs.{Faults.TellsIn, declared.fault.DocFault.DocFault, declared.fault.EntryFault.EntryFault, declared.fault.Spot.Spot, declared.fault.TableFault.TableFault, declared.fault.TableFault.TheVariants.Entry, declared.fault.TableFault.TheVariants.Memory, DesksFaults.DesksFaultStands, DesksFaults.IsDesksFault}
use Rattle.batch_reader.specs.declared.fault.DocFault.TheVariants as document
use Rattle.batch_reader.specs.declared.fault.TableKind.TheVariants as table
use Rattle.batch_reader.proofs.desk_reading.read_desks.Goals as goal

pub returns-in_err-table-clause-stands : goal.returns-in_err-table-clause-stands
returns-in_err-table-clause-stands c = λ spot wrong told.
    let p = err_from_is_err_and c.from_residual.result c.from_residual.ensures.1 in
    let h = c.in_err-table.ensures.told spot wrong (cc (p.1, p.2, told)) in
    inl (record { long = h.2; first = ap (λ (s : Spot). s.entry) h.0; told = h.1 })

-- the document is refused as its table is
stands : (bytes : List ℕ) (ms : Members) (fault : TableFault) (refusal : DocFault) (spot : Spot) (wrong : EntryFault) → parse_document bytes ≡ Some ms
    → TellsIn table.Desk (IsDesksFault ms) fault → ((here : Spot) (is : EntryFault) → fault ≡ Entry here is → refusal ≡ document.Entry here is)
    → (fault ≡ Memory → refusal ≡ document.Memory) → refusal ≡ document.Entry spot wrong → DesksFaultStands bytes spot.entry wrong
stands bytes ms Memory refusal spot wrong parsed told entry memory is = let none = memory refl in absurd (cc (none, is))
stands bytes ms (Entry here what) refusal spot wrong parsed told entry memory is =
    let e = entry here what refl in
    let place : here ≡ spot = cc (e, is) in
    let same : what ≡ wrong = cc (e, is) in
    inr (record { document = ms; parsed = parsed; wrong_at = subst (λ (s : Spot). IsDesksFault ms s.entry wrong) place (subst (λ (w : EntryFault). IsDesksFault ms here.entry w) same told.1) })

pub returns-clause-stands : goal.returns-clause-stands
returns-clause-stands c = λ spot wrong told.
    let is : c.document_fault.result ≡ document.Entry spot wrong = cc told in
    stands c.args.bytes.now (table_view c.in_ok-table.table) c.in-Err.fault c.document_fault.result spot wrong c.in_ok-table.ensures.parsed c.in-Err.ensures.told
    c.document_fault.ensures.entry c.document_fault.ensures.memory is
