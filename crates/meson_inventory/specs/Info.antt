-- What an info command reports of a call or a value, with positions: lines from 0, characters in UTF-16 units. It is the listing without them, with further members.
use Rattle.std.specs.Prelude.{◌≡◌, ℕ, List, [], ◌∷◌, map, codes, if◌then◌else◌, Option, Some, None, Ok, Err}
use Rattle.std.specs.List.{filter_map}
use Rattle.std.specs.Option.{option_map_or}
use Rattle.serde_json.specs.Data.{Data, boolean, string, array, object, Members, no_members, member, put}
use Rattle.serde_json.specs.Find.{as_object}
use Rattle.serde_json.specs.View.{items_of}
use Rattle.meson_lex.specs.declared.kinds.Span.{Span}
use Rattle.meson_splice.specs.declared.file_set.File.{File}
use Rattle.meson_syntax.specs.Tree.{Expression, call, Argument, named, Listing}
use Rattle.meson_edit.specs.Edits.{elements}
use Rattle.meson_edit.specs.Standing.{expression_span}
use Rattle.meson_calls.specs.declared.call.CallRef.{CallRef}
use Rattle.meson_calls.specs.declared.call.Reading.{Reading}
use Rattle.meson_calls.specs.declared.call.Reading.TheVariants.{Written, Followed}
use Rattle.meson_calls.specs.declared.call.Role.{Role}
use Rattle.meson_calls.specs.declared.refusal.Refusal.{Refusal}
use Rattle.meson_calls.specs.Finding.{the_call}
use Rattle.meson_calls.specs.Keys.{is_key}
use Rattle.meson_calls.specs.Loading.{Loaded, name_of_file, project}
use Rattle.meson_calls.specs.Project.{expression_at}
use Rattle.meson_variables.specs.declared.source.SourceItem.{SourceItem}
use Rattle.meson_sharing.specs.Told.{Told, ToldItem}
use Rattle.meson_steps.specs.declared.argument.ValueName.{ValueName}
use Rattle.meson_steps.specs.declared.command.Command.{Command}
use Rattle.meson_steps.specs.declared.command.Command.TheVariants as command
use Rattle.meson_details.specs.declared.details.Head.{Head}
use Rattle.meson_details.specs.declared.details.Shown.{Shown}
use Rattle.meson_details.specs.Details.{head, keywords}
use Rattle.meson_listing.specs.Entries.{call_data, target_data, text_or_null}
use Rattle.meson_listing.specs.Followed.{folder_data, names_or_null, target_with}
use Rattle.meson_listing.specs.Values.{value_data}
use Rattle.meson_plan.specs.declared.details.TargetDetails.{TargetDetails}
use Rattle.meson_plan.specs.Details.{AreDetails, NoTarget, place_found, target_place, told_sources}
use Rattle.meson_plan.specs.Values.{the_value}
use Rattle.meson_plan.specs.declared.values.FoundValue.{FoundValue}
use Rattle.meson_inventory.specs.Placed.{character_at, count, line_at}
use Rattle.meson_inventory.specs.declared.info.KeywordPlace.{KeywordPlace}
use Rattle.meson_calls.specs.declared.call.CallName.{CallName}

-- ---- places

-- an offset of the file of that number, with its position
abbrev pub offset_data : List File → ℕ → ℕ → Data
offset_data files file offset =
    object (member (codes "at") (count offset) (member (codes "character") (character_at files file offset)
    (member (codes "line") (line_at files file offset) no_members)))

-- where a part of the file begins, and where it ends: after its last byte
abbrev pub range_data : List File → ℕ → Span → Data
range_data files file span =
    object (member (codes "at") (count span.from) (member (codes "character") (character_at files file span.from)
    (member (codes "end") (offset_data files file span.to) (member (codes "line") (line_at files file span.from) no_members))))

-- members with `character`, `line` and `end` of a part of the file
abbrev pub with_position : List File → ℕ → Span → Members → Members
with_position files file span ms =
    put (codes "line") (line_at files file span.from) (put (codes "end") (offset_data files file span.to)
    (put (codes "character") (character_at files file span.from) ms))

-- what an expression that is a call spans
abbrev pub call_span : Option (Expression Span) → Span
call_span (Some (call s f arguments)) = s
call_span _ = record { from = 0; to = 0 }

abbrev pub span_at : Loaded → CallRef → Span
span_at l c = call_span (expression_at (project l) c)

-- an object with other members; what is not an object stays
abbrev pub with_members : (Members → Members) → Data → Data
with_members f d = option_map_or (λ ms. object (f ms)) (as_object d) d

-- ---- targets

abbrev pub placed_item_data : List File → SourceItem → Data
placed_item_data files i =
    object (member (codes "at") (count i.span.from) (member (codes "character") (character_at files i.file i.span.from)
    (member (codes "end") (offset_data files i.file i.span.to) (member (codes "file") (string (name_of_file i.file files))
    (member (codes "line") (line_at files i.file i.span.from) (member (codes "value") (string i.value)
    (member (codes "variable") (text_or_null i.variable) no_members)))))))

abbrev pub placed_items_data : List File → List SourceItem → Data
placed_items_data files is = array (items_of (map (placed_item_data files) is))

-- the listing of a target whose call spans that, with positions
abbrev pub placed_target_data : List File → Span → TargetDetails → Data
placed_target_data files span t =
    with_members (λ ms. with_position files t.place.file span
    (put (codes "sources") (placed_items_data files t.sources.items) (put (codes "extra_files") (placed_items_data files t.extra_files.items) ms)))
    (target_data files t.place.file t.head t.sources t.extra_files)

-- a source that is followed
abbrev pub placed_told_data : List File → ToldItem Span → Data
placed_told_data files t =
    object (member (codes "at") (count t.item.stands.from) (member (codes "character") (character_at files t.item.place.file t.item.stands.from)
    (member (codes "end") (offset_data files t.item.place.file t.item.stands.to) (member (codes "file") (string (name_of_file t.item.place.file files))
    (member (codes "folder") (folder_data files t.item.way.files) (member (codes "line") (line_at files t.item.place.file t.item.stands.from)
    (member (codes "shared") (names_or_null t.shared) (member (codes "sure") (boolean t.item.way.sure)
    (member (codes "value") (string t.item.text) (member (codes "variable") (text_or_null t.variable) no_members))))))))))

abbrev pub placed_tolds_data : List File → List (ToldItem Span) → Data
placed_tolds_data files ts = array (items_of (map (placed_told_data files) ts))

-- the listing of a target whose call spans that and whose variables are followed, with positions
abbrev pub placed_followed_data : List File → Span → TargetDetails → Told Span → Data
placed_followed_data files span t told =
    with_members (λ ms. with_position files t.place.file span (put (codes "extra_files") (placed_items_data files t.extra_files.items) ms))
    (target_with files t.place.file t.head (placed_tolds_data files told.items) told.unknown t.extra_files)

-- the listing of a target whose call spans that, as its sources are read
abbrev pub placed_by : Loaded → Reading → Span → TargetDetails → Data
placed_by l Written span t = placed_target_data l.files span t
placed_by l Followed span t = placed_followed_data l.files span t (told_sources l t.place)

-- it is that of the one target that the id names
pub record IsTargetInfo (l : Loaded) (reading : Reading) (name : CallName) (info : Data) : Type 0 where
  pub told : TargetDetails
  pub is_place : target_place (project l) name ≡ Ok told.place
  pub are_details : AreDetails (project l) told.place told
  pub is : info ≡ placed_by l reading (span_at l told.place) told

-- why it reports nothing, except out of memory: the id names no target or more than one, or `sources:` or `extra_files:` is there twice
abbrev pub HasNoTargetInfo : Loaded → CallName → Refusal → Type 0
HasNoTargetInfo l name why = NoTarget (project l) name why

-- ---- keyword arguments

-- where the name and the value of a keyword argument are that commands change
abbrev pub keyword_place : Role → Argument Span → Option KeywordPlace
keyword_place r (named s x e) = if is_key r x.text then Some (record { key = x.text; name = x.place; value = expression_span e }) else None
keyword_place r _ = None

-- in the call's order
abbrev pub keyword_places : Role → Listing Span → List KeywordPlace
keyword_places r l = filter_map (keyword_place r) (elements l)

abbrev pub places_of_call : Role → Option (Expression Span) → List KeywordPlace
places_of_call r (Some (call s f l)) = keyword_places r l
places_of_call r _ = []

abbrev pub keyword_place_data : List File → ℕ → KeywordPlace → Data
keyword_place_data files file p =
    object (member (codes "name") (range_data files file p.name) (member (codes "value") (range_data files file p.value) no_members))

-- each is put at its key; the order of the keys decides its place
abbrev pub put_places : List File → ℕ → Members → List KeywordPlace → Members
put_places files file ms [] = ms
put_places files file ms (p ∷ more) = put_places files file (put p.key (keyword_place_data files file p) ms) more

abbrev pub places_data : List File → ℕ → List KeywordPlace → Data
places_data files file ps = object (put_places files file no_members ps)

-- the listing of a call in the file of that number that spans that, with positions
abbrev pub placed_kwargs_data : List File → ℕ → Span → Head → List (List ℕ × Shown) → List KeywordPlace → Data
placed_kwargs_data files file span head pairs places =
    with_members (λ ms. with_position files file span (put (codes "places") (places_data files file places) ms)) (call_data files file head pairs)

-- it is that of the one call of this role that the id names
pub record IsCallInfo (l : Loaded) (role : Role) (name : CallName) (info : Data) : Type 0 where
  pub place : CallRef
  pub is_place : place_found (the_call (project l) role name) ≡ Ok place
  pub its_head : Head
  pub is_head : head (project l) place ≡ Some its_head
  pub pairs : List (List ℕ × Shown)
  pub are_pairs : keywords l role place ≡ Some (Ok pairs)
  pub is : info ≡ placed_kwargs_data l.files place.file (span_at l place) its_head pairs (places_of_call role (expression_at (project l) place))

-- why it reports nothing, except out of memory: the id names no call or more than one, or a keyword argument is there twice
pub data HasNoCallInfo (l : Loaded) (role : Role) (name : CallName) : Refusal → Type 0 where
  not_found : (refusal : Refusal) → place_found (the_call (project l) role name) ≡ Err refusal → HasNoCallInfo l role name refusal
  twice : (place : CallRef) (refusal : Refusal) → place_found (the_call (project l) role name) ≡ Ok place → keywords l role place ≡ Some (Err refusal)
      → HasNoCallInfo l role name refusal

-- ---- values

abbrev pub placed_value_data : List File → FoundValue → Data
placed_value_data files v = with_members (with_position files v.file v.span) (value_data files v.file v.span.from v.details)

-- it is that of the value that the name names
pub record IsValueInfo (l : Loaded) (n : ValueName) (info : Data) : Type 0 where
  pub value : FoundValue
  pub is_value : the_value l n ≡ Ok value
  pub is : info ≡ placed_value_data l.files value

-- why it reports nothing, except out of memory: there is no such value, or more than one
abbrev pub HasNoValueInfo : Loaded → ValueName → Refusal → Type 0
HasNoValueInfo l n why = the_value l n ≡ Err why

-- ---- commands

-- what a command reports, if it is an info command
abbrev pub IsInfo : Loaded → Command → Option Data → Type 0
IsInfo l (command.TargetInfo id reading) (Some info) = IsTargetInfo l reading id info
IsInfo l (command.KwargsInfo role id) (Some info) = IsCallInfo l role id info
IsInfo l (command.ArgumentInfo name) (Some info) = IsValueInfo l name info
IsInfo l (command.TargetInfo id reading) None = ⊥
IsInfo l (command.KwargsInfo role id) None = ⊥
IsInfo l (command.ArgumentInfo name) None = ⊥
IsInfo l _ info = info ≡ None

-- why it reports nothing, except out of memory
abbrev pub HasNoInfo : Loaded → Command → Refusal → Type 0
HasNoInfo l (command.TargetInfo id reading) why = HasNoTargetInfo l id why
HasNoInfo l (command.KwargsInfo role id) why = HasNoCallInfo l role id why
HasNoInfo l (command.ArgumentInfo name) why = HasNoValueInfo l name why
HasNoInfo l _ why = ⊥
