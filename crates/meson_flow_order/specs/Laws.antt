-- Laws of the order of what is known of a variable, and of what is known where parts of the files are begun with more.
use Rattle.std.specs.Prelude.{◌≡◌, ℕ, Bool, true, false, List, Some, None}
use Rattle.std.specs.List.{AllByRecursion}
use Rattle.meson_lex.specs.declared.kinds.Span.{Span}
use Rattle.meson_syntax.specs.Tree.{Block, Statement}
use Rattle.meson_calls.specs.declared.call.CallRef.{CallRef}
use Rattle.meson_calls.specs.Calls.{Call}
use Rattle.meson_calls.specs.Project.{BuildFile, Placed, Project}
use Rattle.meson_following.specs.declared.effects.Effect.{Effect}
use Rattle.meson_following.specs.Effects.{effect_of}
use Rattle.meson_following.specs.Flows.{Arrival, Flow, begun, either_flow, flow_block, flow_file, flow_project, flow_statement, is_in, known_among, known_at, then_flow}
use Rattle.meson_following.specs.Makers.{Known, Made, Maker, added, assigned, is_among, is_full, joined, touched}
use Rattle.meson_flow_order.specs.Order.{AreFlows, AreMet, HoldsInTurns, IsBelow, IsBelowAsSet, IsBelowWith, IsGood, IsGoodKnown}

-- ---- an order

-- each is below itself
abbrev pub BelowItself : Type 0
BelowItself = (k : Known Span) → IsBelow k k

-- what is below what is below is below
abbrev pub BelowInTurn : Type 0
BelowInTurn = (k l m : Known Span) → IsGoodKnown l → IsBelow k l → IsBelow l m → IsBelow k m

abbrev pub NoneIsLeast : Type 0
NoneIsLeast = (l : Known Span) → IsBelow None l

-- ---- what each step makes

-- two ways are below either of them, and below what both are below
abbrev pub JoinedIsAbove : Type 0
JoinedIsAbove = (k l : Known Span) → IsBelow k (joined k l) × IsBelow l (joined k l)

abbrev pub JoinedIsLeast : Type 0
JoinedIsLeast = (k l u : Known Span) → IsGoodKnown k → IsGoodKnown l → IsGoodKnown u → IsBelow k u → IsBelow l u → IsBelow (joined k l) u

-- what may be set, or left as it is
abbrev pub TouchedIsAbove : Type 0
TouchedIsAbove = (k : Known Span) → IsGoodKnown k → IsBelow k (touched k)

-- each maker stands once, and no more than are kept apart
abbrev pub StayGood : Type 0
StayGood = (m : Maker Span) (k l : Known Span) → IsGoodKnown k → IsGoodKnown l → IsGoodKnown (joined k l) × IsGoodKnown (touched k) × IsGoodKnown (assigned m k)

-- ---- each step keeps the order

abbrev pub JoinedKeeps : Type 0
JoinedKeeps =
    (k l f g : Known Span) → IsGoodKnown k → IsGoodKnown l → IsGoodKnown f → IsGoodKnown g → IsBelow k f → IsBelow l g → IsBelow (joined k l) (joined f g)

abbrev pub TouchedKeeps : Type 0
TouchedKeeps = (k l : Known Span) → IsGoodKnown k → IsGoodKnown l → IsBelow k l → IsBelow (touched k) (touched l)

-- Where the variable is set. Where the one is not set and the other one is, this fails (`UnsetIsApart`): `+=` is an error then, of which nothing has to be said.
abbrev pub AddedKeeps : Type 0
AddedKeeps = (m : Maker Span) (k l : Made Span) → IsGood k → IsGood l → IsBelow (Some k) (Some l) → IsBelow (Some (added m (Some k))) (Some (added m (Some l)))

abbrev pub AssignedKeeps : Type 0
AssignedKeeps = (m : Maker Span) (k l : Known Span) → IsBelowAsSet k l → IsBelowAsSet (assigned m k) (assigned m l)

-- Where as many makers are kept as can be, one more is left out, though it has a part for sure: they stay as they are, with something that is not known.
abbrev pub OneMoreIsLeftOut : Type 0
OneMoreIsLeftOut =
    (m : Maker Span) (k : Made Span) → IsGood k → is_full k ≡ true → is_among k.makers m ≡ false
    → added m (Some k) ≡ record { makers = k.makers; unknown = true }

-- ---- parts of the files keep it

-- what is begun with more ends with more
abbrev pub Keeps : (Known Span → Flow Span) → Type 0
Keeps flow = (k l : Known Span) → IsBelowAsSet k l → AreFlows IsBelowAsSet (flow k) (flow l)

-- one of two ways, and one part after another
abbrev pub EitherKeeps : Type 0
EitherKeeps =
    (f g h i : Flow Span) → AreFlows IsBelowAsSet f g → AreFlows IsBelowAsSet h i → AreFlows IsBelowAsSet (either_flow f h) (either_flow g i)

abbrev pub ThenKeeps : Type 0
ThenKeeps = (f g : Flow Span) (more : Known Span → Flow Span) → AreFlows IsBelowAsSet f g → Keeps more → AreFlows IsBelowAsSet (then_flow f more) (then_flow g more)

-- a statement and a block, where each file that they enter keeps it
abbrev pub StatementsKeep : Type 0
StatementsKeep =
    (x : List ℕ) (effect : Placed (Call Span) → Effect) (enter : ℕ → Known Span → Flow Span) → ((n : ℕ) → Keeps (enter n))
    → (q : CallRef) (s : Statement Span) → Keeps (flow_statement x effect enter q s)

abbrev pub BlocksKeep : Type 0
BlocksKeep =
    (x : List ℕ) (effect : Placed (Call Span) → Effect) (enter : ℕ → Known Span → Flow Span) → ((n : ℕ) → Keeps (enter n))
    → (q : CallRef) (b : Block Span) → Keeps (flow_block x effect enter q b)

-- a file of a project, with all that it enters
abbrev pub FilesKeep : Type 0
FilesKeep = (p : Project Span) (x : List ℕ) (left n : ℕ) → Keeps (flow_file p x left n)

-- ---- reads

-- What is read at a place is above what is known wherever an expression there is evaluated.
abbrev pub ReadsAreAbove : Type 0
ReadsAreAbove =
    (p : Project Span) (x : List ℕ) (c : CallRef)
    → AllByRecursion (λ a. is_in c a.at_expression.place ≡ true → IsBelow a.known (known_at p x c)) (flow_project p x).arrivals

-- each maker stands once in it, and no more than are kept apart
abbrev pub ReadsAreGood : Type 0
ReadsAreGood = (p : Project Span) (x : List ℕ) (c : CallRef) → IsGoodKnown (known_at p x c)

-- Where more is known at each expression, more is read.
abbrev pub ReadsKeep : Type 0
ReadsKeep =
    (c : CallRef) (met more : List (Arrival Span)) → AreMet IsBelowAsSet met more → IsBelowAsSet (known_among c None met) (known_among c None more)

-- ---- loops

-- What a block of a file adds, it adds whatever it begins with: begun with more, it ends with no more than that and what it ends with alone.
abbrev pub BlocksAddTheSame : Type 0
BlocksAddTheSame =
    (p : Project Span) (x : List ℕ) (f : BuildFile Span) (left : ℕ) (q : CallRef) (b : Block Span) (k more : Known Span) → IsGoodKnown k → IsGoodKnown more
    → (let flow = flow_block x (effect_of p x f) (flow_file p x left) q b in AreFlows (IsBelowWith more) (flow (joined k more)) (flow k))

-- What is known of a variable where a turn begins holds in each turn of a loop, whether the loop's names are among what is followed or not.
abbrev pub LoopsHold : Type 0
LoopsHold =
    (p : Project Span) (x : List ℕ) (f : BuildFile Span) (left : ℕ) (q : CallRef) (b : Block Span) (named : Bool) (k : Known Span) → IsGoodKnown k
    → HoldsInTurns (λ now. flow_block x (effect_of p x f) (flow_file p x left) q b (begun named now)) k
