-- trusted: the faults of a table by itself, for which it is refused.
use Rattle.std.specs.Prelude.{◌≡◌, ℕ, ◌+◌, ◌<◌, ◌≤◌, ℤ, pos, ◌⊎◌, ⊤, Bool, true, false, List, length, take, drop, position, Option, Some, None, option_and_then, codes}
use Rattle.std.specs.Borrow.{Bor}
use Rattle.std.specs.List.{slice_get}
use Rattle.toml.specs.Data.{Data, Items, no_items, item, get_item, Members, get_member, as_str, as_integer, as_bool, as_array, as_table}
use Rattle.batch_text.specs.NameText.{IsName}
use Rattle.batch_text.specs.NumberText.{IsNumber, number_of}
use Rattle.batch_recipe.specs.Diagram.{Diagram}
use Rattle.batch_recipe.specs.declared.need.Need.{Need}
use Rattle.batch_recipe.specs.declared.need.TheConstants.{MAX_NEED_UNITS}
use Rattle.batch_reader.specs.ChartAnswer.{HasFaultAt, IsOutsideAt, IsRead}
use Rattle.batch_reader.specs.ChartGrammar.{IsLabel}
use Rattle.batch_reader.specs.declared.chart_reading.TheConstants.{MAX_CHART_LEN}
use Rattle.batch_reader.specs.Entries.{AllItems, IsNameItem, IsNeedItem, items_at}
use Rattle.batch_reader.specs.Keys.{Key, has_known_keys, keys_of, may_stand}
use Rattle.batch_reader.specs.NeedText.{is_star}
use Rattle.batch_reader.specs.RightTables.{IsRightTable}
use Rattle.batch_reader.specs.Words.{table_word}
use Rattle.batch_reader.specs.declared.fault.EntryFault.{EntryFault}
use Rattle.batch_reader.specs.declared.fault.EntryFault.TheVariants.{MissingKey, WrongKind, NoNeed, UnknownKey, Undeclared, Duplicate, OutOfLimit, NeedOutOfLimit, NumberOutOfLimit, Chart}
use Rattle.batch_reader.specs.declared.fault.TableKind.{TableKind}
use Rattle.batch_reader.specs.declared.fault.TableKind.TheVariants.{Cell, Recipe, Procedure}
use Rattle.batch_reader.specs.declared.keys.ValueForm.{ValueForm}
use Rattle.batch_reader.specs.declared.keys.ValueForm.TheVariants as form

abbrev pub count_items : Items → ℕ
count_items no_items = 0
count_items (item d ds) = 1 + count_items ds

-- the value is a text that has this property
pub record IsTextThat (Is : List ℕ → Type 0) (d : Data) : Type 0 where
  pub text : List ℕ
  pub found : as_str d ≡ Some text
  pub fits : Is text

-- ---- needs

-- the text has no name before its star, or no number after it
abbrev pub IsNoNeedCut : Option ℕ → List ℕ → Type 0
IsNoNeedCut None text = ¬ IsName text
IsNoNeedCut (Some star) text = ¬ (IsName (take star text) × IsNumber (drop (star + 1) text))

-- the number after the star is out of range
abbrev pub HasTooManyUnits : Option ℕ → List ℕ → Type 0
HasTooManyUnits None text = ⊥
HasTooManyUnits (Some star) text = IsNumber (drop (star + 1) text) × ((1 ≤ number_of (drop (star + 1) text)) → number_of (drop (star + 1) text) ≤ MAX_NEED_UNITS → ⊥)

abbrev pub IsNoNeed : Data → Type 0
IsNoNeed d = (text : List ℕ) → as_str d ≡ Some text → IsNoNeedCut (position is_star text) text

abbrev pub IsNeedOutOfLimits : Data → Type 0
IsNeedOutOfLimits = IsTextThat (λ text. HasTooManyUnits (position is_star text) text)

-- the item with this number has this property, and each before it is a need
pub record IsFirstNoNeed (Is : Data → Type 0) (items : Items) (number : ℕ) : Type 0 where
  pub here : Data
  pub found : get_item number items ≡ Some here
  pub fits : Is here
  pub before : (n : ℕ) (d : Data) → n < number → get_item n items ≡ Some d → (need : Need) × IsNeedItem d need

-- ---- values

-- the value is no list, or its items have this property
abbrev pub IsNoListOr : (Items → Type 0) → Option Items → Type 0
IsNoListOr Are None = ⊤
IsNoListOr Are (Some items) = Are items

abbrev pub AreNoNames : Items → Type 0
AreNoNames items = (names : List (List ℕ)) → ¬ (AllItems IsNameItem items names)

-- the value is none of the form, whatever the limits
abbrev pub IsOfWrongKind : ValueForm → Data → Type 0
IsOfWrongKind form.Name d = (name : List ℕ) → ¬ (IsNameItem d name)
IsOfWrongKind form.FreeName d = (name : List ℕ) → as_str d ≡ Some name → ¬ (IsLabel name)
IsOfWrongKind (form.Text most) d = as_str d ≡ None
IsOfWrongKind (form.Path most) d = as_str d ≡ None
IsOfWrongKind (form.Number low high) d = as_integer d ≡ None
IsOfWrongKind (form.Least high) d = as_integer d ≡ None
IsOfWrongKind form.Truth d = as_bool d ≡ None
IsOfWrongKind (form.Names least most) d = IsNoListOr AreNoNames (as_array d)
IsOfWrongKind (form.Needs most) d = as_array d ≡ None
IsOfWrongKind form.Chart d = as_str d ≡ None
IsOfWrongKind form.ChartWithoutPar d = as_str d ≡ None
IsOfWrongKind form.Tables d = ⊥

-- the value is an integer, and none of low to high
pub record IsIntegerOutside (low high : ℕ) (d : Data) : Type 0 where
  pub integer : ℤ
  pub found : as_integer d ≡ Some integer
  pub outside : (n : ℕ) → integer ≡ pos n → low ≤ n → n ≤ high → ⊥

-- the number is above that of the table at the key
pub record IsNumberAbove (key : List ℕ) (table : Members) (d : Data) : Type 0 where
  pub number : ℕ
  pub found : as_integer d ≡ Some (pos number)
  pub other : ℕ
  pub found_other : option_and_then as_integer (get_member key table) ≡ Some (pos other)
  pub above : other < number

-- the value is a list whose items have this property
pub record IsListThat (Is : Items → Type 0) (d : Data) : Type 0 where
  pub items : Items
  pub found : as_array d ≡ Some items
  pub fits : Is items

-- the value in this table is of the form but for its limits
abbrev pub IsOutOfLimits : ValueForm → Members → Data → Type 0
IsOutOfLimits form.Name table d = ⊥
IsOutOfLimits form.FreeName table d = ⊥
IsOutOfLimits (form.Text most) table d = IsTextThat (λ text. most < length text) d
IsOutOfLimits (form.Path most) table d = IsTextThat (λ text. 1 ≤ length text → length text ≤ most → ⊥) d
IsOutOfLimits (form.Number low high) table d = IsIntegerOutside low high d
IsOutOfLimits (form.Least high) table d = IsIntegerOutside 0 high d ⊎ IsNumberAbove (codes "max") table d
IsOutOfLimits form.Truth table d = ⊥
IsOutOfLimits (form.Names least most) table d = IsListThat (λ items. least ≤ count_items items → count_items items ≤ most → ⊥) d
IsOutOfLimits (form.Needs most) table d = IsListThat (λ items. most < count_items items) d
IsOutOfLimits form.Chart table d = IsTextThat (λ text. MAX_CHART_LEN < length text) d
IsOutOfLimits form.ChartWithoutPar table d = IsTextThat (λ text. MAX_CHART_LEN < length text) d
IsOutOfLimits form.Tables table d = ⊥

-- the value is a list of needs up to the item with this number, which has this property
abbrev pub HasNeedThat : (Data → Type 0) → ValueForm → ℕ → Data → Type 0
HasNeedThat Is (form.Needs most) number d = IsListThat (λ items. IsFirstNoNeed Is items number) d
HasNeedThat Is _ number d = ⊥

-- the text isn't too long, and is of no chart: at the offset its longest front ends that begins a text of a chart
abbrev pub IsNoChartAt : ℕ → List ℕ → Type 0
IsNoChartAt offset text = (length text ≤ MAX_CHART_LEN) × HasFaultAt text offset

-- the text is of a chart, whose first `par` opens at the offset
abbrev pub OpensParAt : ℕ → List ℕ → Type 0
OpensParAt offset text = (chart : Diagram) × IsRead text chart (Some offset)

-- the value is a text that is refused as a chart at the offset
abbrev pub HasChartFaultAt : ValueForm → ℕ → Data → Type 0
HasChartFaultAt form.Chart offset d = IsTextThat (IsNoChartAt offset) d
HasChartFaultAt form.ChartWithoutPar offset d = IsTextThat (λ text. IsNoChartAt offset text ⊎ OpensParAt offset text) d
HasChartFaultAt _ offset d = ⊥

-- the value is a text of a chart but for numbers that are out of range, of which the first begins at the offset
abbrev pub HasNumberOutsideAt : ValueForm → ℕ → Data → Type 0
HasNumberOutsideAt form.Chart offset d = IsTextThat (λ text. IsOutsideAt text offset) d
HasNumberOutsideAt form.ChartWithoutPar offset d = IsTextThat (λ text. IsOutsideAt text offset) d
HasNumberOutsideAt _ offset d = ⊥

-- ---- keys and tables

-- the key has a value that has this property
pub record HasValue (Is : Data → Type 0) (word : List ℕ) (table : Members) : Type 0 where
  pub here : Data
  pub found : get_member word table ≡ Some here
  pub fits : Is here

-- the fault names this key
abbrev pub NamesKey : List ℕ → Option (Bor (List ℕ)) → Type 0
NamesKey word None = ⊥
NamesKey word (Some key) = key.now ≡ word

-- this is wrong with the table at the key
abbrev pub IsKeyFault : Key → Members → EntryFault → Type 0
IsKeyFault key table (MissingKey named) = NamesKey key.word named × (key.is_needed ≡ true) × (get_member key.word table ≡ None)
IsKeyFault key table (WrongKind named) = NamesKey key.word named × HasValue (IsOfWrongKind key.form) key.word table
IsKeyFault key table (NoNeed number) = HasValue (HasNeedThat IsNoNeed key.form number) key.word table
IsKeyFault key table (NeedOutOfLimit number) = HasValue (HasNeedThat IsNeedOutOfLimits key.form number) key.word table
IsKeyFault key table (OutOfLimit named) = NamesKey key.word named × HasValue (IsOutOfLimits key.form table) key.word table
IsKeyFault key table (NumberOutOfLimit offset) = HasValue (HasNumberOutsideAt key.form offset) key.word table
IsKeyFault key table (Chart offset) = HasValue (HasChartFaultAt key.form offset) key.word table
IsKeyFault key table UnknownKey = ⊥
IsKeyFault key table (Undeclared named) = ⊥
IsKeyFault key table (Duplicate named) = ⊥

-- this is wrong with the table at one of these keys, which may stand there
pub record HasKeyFault (keys : List Key) (stands_there : List ℕ → Bool) (table : Members) (wrong : EntryFault) : Type 0 where
  pub place : ℕ
  pub key : Key
  pub listed : slice_get keys place ≡ Some key
  pub stands : stands_there key.word ≡ true
  pub fault : IsKeyFault key table wrong

-- the table, of this kind, has another key, or this is wrong with it at one of its keys
abbrev pub IsTableFault : TableKind → Members → EntryFault → Type 0
IsTableFault kind table wrong = ((wrong ≡ UnknownKey) × (has_known_keys kind table ≡ false)) ⊎ HasKeyFault (keys_of kind) (λ word. may_stand kind word table) table wrong

-- ---- the table that a refusal names

-- the value is no table, or this is wrong with it
abbrev pub IsNoTableOr : (Members → EntryFault → Type 0) → Option Members → EntryFault → Type 0
IsNoTableOr IsFault None wrong = wrong ≡ WrongKind None
IsNoTableOr IsFault (Some table) wrong = IsFault table wrong

-- the list has this entry, with which this is wrong, and those before it are right
pub record IsEntryFault (IsRight : Data → Type 0) (IsFault : Members → EntryFault → Type 0) (items : Items) (entry : ℕ) (wrong : EntryFault) : Type 0 where
  pub here : Data
  pub found : get_item entry items ≡ Some here
  pub fault : IsNoTableOr IsFault (as_table here) wrong
  pub before : (n : ℕ) (d : Data) → n < entry → get_item n items ≡ Some d → IsRight d

-- the value is no list, which is reported at entry 0, or this is wrong with the entry, and those before it are right
abbrev pub IsArrayFault : (Data → Type 0) → (Members → EntryFault → Type 0) → Option Items → ℕ → EntryFault → Type 0
IsArrayFault IsRight IsFault None entry wrong = (entry ≡ 0) × (wrong ≡ WrongKind None)
IsArrayFault IsRight IsFault (Some items) entry wrong = IsEntryFault IsRight IsFault items entry wrong

-- the procedure is missing, or this is wrong with it
abbrev pub IsProcedureFault : Option Data → EntryFault → Type 0
IsProcedureFault None wrong = wrong ≡ MissingKey None
IsProcedureFault (Some d) wrong = IsNoTableOr (IsTableFault Procedure) (as_table d) wrong

-- this is wrong with the table of the document that has this number among those of its kind
abbrev pub IsFaultOfTable : Members → TableKind → ℕ → EntryFault → Type 0
IsFaultOfTable document Cell entry wrong = (entry ≡ 0) × IsTableFault Cell document wrong
IsFaultOfTable document Recipe entry wrong = (entry ≡ 0) × IsTableFault Recipe document wrong
IsFaultOfTable document Procedure entry wrong = (entry ≡ 0) × IsProcedureFault (get_member (codes "procedure") document) wrong
IsFaultOfTable document kind entry wrong = IsArrayFault (IsRightTable kind) (IsTableFault kind) (items_at (table_word kind) document) entry wrong
