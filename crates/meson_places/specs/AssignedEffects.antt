-- What is there after elements of all values that are assigned to a variable were removed or replaced.
use Rattle.std.specs.Prelude.{◌≡◌, ℕ, true, false, List, [], ◌∷◌, if◌then◌else◌, Some, None, Ok}
use Rattle.std.specs.List.{list_all, list_any}
use Rattle.meson_lex.specs.declared.kinds.Span.{Span}
use Rattle.meson_splice.specs.Files.{bytes_at}
use Rattle.meson_syntax.specs.Tree.{Expression, Nowhere, Plain, erase_expression}
use Rattle.meson_calls.specs.declared.call.CallRef.{CallRef}
use Rattle.meson_calls.specs.Loading.{IsProject, Loaded, project}
use Rattle.meson_steps.specs.GivenWords.{MayBeGiven}
use Rattle.meson_steps.specs.ResultLimits.{plain_trees}
use Rattle.meson_steps.specs.Steps.{Step, all_stepped}
use Rattle.meson_steps.specs.declared.argument.ValueChange.{ValueChange}
use Rattle.meson_steps.specs.declared.argument.ValueChange.TheVariants as change
use Rattle.meson_steps.specs.declared.argument.ValueName.{ValueName}
use Rattle.meson_steps.specs.declared.given.Given.{Given}
use Rattle.meson_places.specs.declared.slots.Slot.{Slot}
use Rattle.meson_places.specs.AllAssigned.{all_assigned, alone_at, remove_each, replace_each, said_among, says_by}
use Rattle.meson_places.specs.Expressions.{EachIs}
use Rattle.meson_places.specs.Names.{the_place}
use Rattle.meson_places.specs.Replacements.{exchange}
use Rattle.meson_places.specs.SaidElements.{elements_left, says_one, value_left}
use Rattle.meson_places.specs.Slots.{the_slot}
use Rattle.meson_places.specs.ValueLists.{ValueList, lists_of}
use Rattle.meson_places.specs.Values.{given_node}

-- ---- what is made of a value

-- its lists have those elements that say none of some values, in their order
abbrev pub without_said : Loaded → List Given → CallRef → Expression Span → Expression Nowhere
without_said l gs c e = value_left (elements_left None (says_one (bytes_at c.file l.files) gs)) e

-- Its lists have the new value in the places of those elements that said the old one; a value without a list is the new one.
abbrev pub exchanged_by : (source : List ℕ) → (was : Given) → (new : Expression Nowhere) → Expression Span → List (ValueList Span) → Expression Nowhere
exchanged_by source was new e [] = new
exchanged_by source was new e (l ∷ ls) = value_left (elements_left (Some new) (says_one source (was ∷ []))) e

-- one that does not say the old value is as it was
abbrev pub with_exchanged : Loaded → (was : Given) → (new : Expression Nowhere) → CallRef → Expression Span → Expression Nowhere
with_exchanged l was new c e =
    if says_by (bytes_at c.file l.files) was e (lists_of c e) then exchanged_by (bytes_at c.file l.files) was new e (lists_of c e)
    else erase_expression e

-- ---- what is left of all

-- Each of the values was said, and no value without a list said one of them. Now they are said no more.
pub record EachLost (old : Loaded) (gs : List Given) (cs : List CallRef) (before after : List Plain) : Type 0 where
  pub all_said : list_all (said_among old.files (project old) cs) gs ≡ true
  pub none_alone : list_any (alone_at old.files (project old) gs) cs ≡ false
  pub now : EachIs (project old) (without_said old gs) cs before after

-- Nothing said the new value. Now it is in the place of each that said the old one.
pub record EachExchanged (old : Loaded) (was new : Given) (cs : List CallRef) (before after : List Plain) : Type 0 where
  pub may : MayBeGiven new
  pub is_new : said_among old.files (project old) cs new ≡ false
  pub now : EachIs (project old) (with_exchanged old was (given_node new may)) cs before after

abbrev pub EachLeft : Loaded → ValueChange → List CallRef → (before after : List Plain) → Type 0
EachLeft old (change.Remove gs) cs before after = EachLost old gs cs before after
EachLeft old (change.Replace was new) cs before after = EachExchanged old was new cs before after
EachLeft old _ cs before after = ⊥

-- the values that a change seeks
abbrev pub sought : ValueChange → List Given
sought (change.Remove gs) = gs
sought (change.Replace was new) = was ∷ []
sought _ = []

-- These are all values that are assigned to the variable that is named, of which one said what is sought. Each is changed.
pub record AllChanged (old : Loaded) (name : ValueName) (named : Slot) (c : ValueChange) (before after : List Plain) : Type 0 where
  pub values : List CallRef
  pub are : all_assigned old.files (project old) name (sought c) named ≡ Ok (Some values)
  pub left : EachLeft old c values before after

-- ---- laws

-- the slot that a name names
pub record IsNamed (l : Loaded) (n : ValueName) (s : Slot) : Type 0 where
  pub place : CallRef
  pub is_place : the_place l n.place ≡ Ok place
  pub is_slot : the_slot (project l) place n.keys ≡ Ok s

-- the law: of all values that are assigned to a variable those elements go that say one of some values, and all else is as it was
abbrev pub RemovesFromEach : Type 0
RemovesFromEach = (l : Loaded) → IsProject l → (n : ValueName) (s : Slot) → IsNamed l n s → (gs : List Given) (cs : List CallRef)
    → all_assigned l.files (project l) n gs s ≡ Ok (Some cs) → (key : List ℕ) (steps : List Step) → remove_each l key gs cs ≡ Ok steps
    → (after : List Plain) → all_stepped steps (plain_trees l) ≡ Some after → EachIs (project l) (without_said l gs) cs (plain_trees l) after

-- the law: in all of them, what says a value becomes another one in its place, and all else is as it was
abbrev pub ReplacesInEach : Type 0
ReplacesInEach = (l : Loaded) → IsProject l → (n : ValueName) (s : Slot) → IsNamed l n s → (was new : Given) (may : MayBeGiven new) (cs : List CallRef)
    → all_assigned l.files (project l) n (was ∷ []) s ≡ Ok (Some cs) → (key : List ℕ) (steps : List Step)
    → replace_each l key (exchange was new may) cs ≡ Ok steps
    → (after : List Plain) → all_stepped steps (plain_trees l) ≡ Some after
    → EachIs (project l) (with_exchanged l was (given_node new may)) cs (plain_trees l) after
