-- The fault of words that fail to parse.
use Rattle.std.proofs.Common.{◌≡◌, ◌≢◌, ◌⊎◌, Bool, true, false, [], ◌∷◌, Option, Some, None, is_some, option_map, inl, inr, refl, if◌then◌else◌}
use Rattle.clap.specs.{Kinds.Kinds, Kinds.HasKind, Kinds.IsAmong, Kinds.or_else, Values.kind_of, declared.error.Error.Error, declared.error.kind.ErrorKind.ErrorKind, declared.error.kind.ErrorKind.TheVariants.MissingRequiredArgument, declared.error.kind.ErrorKind.TheVariants.OutOfMemory}
use Rattle.batch_cli.specs.{CommandLine.IsFaultOf, CommandLine.IsFaultOfKind, CommandLine.IsShown, declared.command.CommandFault.CommandFault, declared.command.CommandFault.TheVariants.Help, declared.command.CommandFault.TheVariants.Usage, declared.command.CommandFault.TheVariants.Memory}

-- a kind that isn't want of memory is one that the words give
kind_is_among : (kinds : Kinds) (kind : ErrorKind) → (kind ≡ OutOfMemory) ⊎ IsAmong kind kinds → kind ≢ OutOfMemory → IsAmong kind kinds
kind_is_among kinds kind (inl none) other = absurd (other none)
kind_is_among kinds kind (inr some) other = some

shown_has_memory : (kind : ErrorKind) → IsShown kind → kind ≢ OutOfMemory
shown_has_memory kind (inl help) none = absurd (cc (help, none))
shown_has_memory kind (inr version) none = absurd (cc (version, none))

-- the fault that is made of an error has a kind that the words give
pub fault_from_kind : (kinds : Kinds) (error : Error) (fault : CommandFault) → HasKind kinds error → IsFaultOfKind (kind_of error) fault → IsFaultOf kinds fault
fault_from_kind kinds error (Help text) among is =
    (kind_of error, kind_is_among kinds (kind_of error) among (shown_has_memory (kind_of error) is), is)
fault_from_kind kinds error (Usage text) among is = (kind_of error, kind_is_among kinds (kind_of error) among is.0, is.1)
fault_from_kind kinds error Memory among is = tt

-- Faults of clap, or else others

among_first : (kind : ErrorKind) (kinds next : Kinds) → IsAmong kind kinds → IsAmong kind (or_else kinds next)
among_first kind [] next is = absurd is
among_first kind (first ∷ more) next is = is

pub kind_first : (kinds next : Kinds) (error : Error) → HasKind kinds error → HasKind (or_else kinds next) error
kind_first kinds next error (inl none) = inl none
kind_first kinds next error (inr some) = inr (among_first (kind_of error) kinds next some)

-- no fault, if there is none of either
pub none_of_both : (kinds : Kinds) (lacking : Bool) → kinds ≡ [] → lacking ≡ false → or_else kinds (if lacking then MissingRequiredArgument ∷ [] else []) ≡ []
none_of_both kinds lacking none not_lacking = rw (none, not_lacking) refl

fault_of_missing : (fault : CommandFault) → IsFaultOfKind MissingRequiredArgument fault → IsFaultOf (MissingRequiredArgument ∷ []) fault
fault_of_missing (Help text) is = (MissingRequiredArgument, inl refl, is)
fault_of_missing (Usage text) is = (MissingRequiredArgument, inl refl, is.1)
fault_of_missing Memory is = tt

-- the fault of a missing recipe, if clap finds none
pub fault_missing : (kinds : Kinds) (lacking : Bool) (fault : CommandFault) → kinds ≡ [] → lacking ≡ true → IsFaultOfKind MissingRequiredArgument fault
    → IsFaultOf (or_else kinds (if lacking then MissingRequiredArgument ∷ [] else [])) fault
fault_missing kinds lacking fault none lacks is = rw (none, lacks) (fault_of_missing fault is)

-- a text is there as its reference is
pub some_mapped : {X Y : Type 0} (f : X → Y) (o : Option X) → is_some (option_map f o) ≡ is_some o
some_mapped f None = refl
some_mapped f (Some x) = refl
