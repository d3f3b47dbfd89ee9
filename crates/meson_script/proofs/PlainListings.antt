-- No listing holds a number with a fraction, so each has its compact text.
use Rattle.std.proofs.Common.{◌≡◌, ℕ, Bool, true, false, List, [], ◌∷◌, map, Option, Some, None, option_map, Result, Ok, Err, Ordering, Less, Equal, Greater, nat_cmp, refl, sym, subst}
use Rattle.std.specs.Prelude.{◌||◌, option_and_then}
use Rattle.std.specs.Ordering.{match_ordering}
use Rattle.std.specs.Cmp.Lexicographic.{slice_cmp}
use Rattle.serde_json.specs.Data.{Data, Members, no_members, member, put, string}
use Rattle.serde_json.specs.View.{items_of}
use Rattle.serde_json.specs.Written.{has_float, items_have_float, members_have_float}
use Rattle.meson_lex.specs.declared.kinds.Span.{Span}
use Rattle.meson_splice.specs.declared.file_set.File.{File}
use Rattle.meson_splice.specs.Patch.{then_ok}
use Rattle.meson_calls.specs.declared.call.CallRef.{CallRef}
use Rattle.meson_calls.specs.declared.call.Reading.{Reading}
use Rattle.meson_calls.specs.declared.call.Reading.TheVariants.{Written, Followed}
use Rattle.meson_calls.specs.declared.call.Role.{Role}
use Rattle.meson_calls.specs.declared.call.Role.TheVariants as role
use Rattle.meson_variables.specs.declared.source.SourceItem.{SourceItem}
use Rattle.meson_variables.specs.declared.source.Sources.{Sources}
use Rattle.meson_calls.specs.declared.refusal.Refusal.{Refusal}
use Rattle.meson_calls.specs.Finding.{the_call}
use Rattle.meson_calls.specs.Loading.{Loaded, project}
use Rattle.meson_variables.specs.TargetSources.{sources}
use Rattle.meson_sharing.specs.Told.{ToldItem}
use Rattle.meson_sources.specs.Extras.{extra_files}
use Rattle.meson_steps.specs.declared.argument.ValueName.{ValueName}
use Rattle.meson_steps.specs.declared.command.Command.{Command}
use Rattle.meson_steps.specs.declared.command.Command.TheVariants as command
use Rattle.meson_details.specs.Details.{head, keywords}
use Rattle.meson_details.specs.declared.details.ArgumentKey.{ArgumentKey}
use Rattle.meson_details.specs.declared.details.ArgumentKey.TheVariants as key
use Rattle.meson_details.specs.declared.details.Head.{Head}
use Rattle.meson_details.specs.declared.details.Shown.{Shown}
use Rattle.meson_details.specs.declared.details.Shown.TheVariants as shown
use Rattle.meson_details.specs.declared.details.ValueDetails.{ValueDetails}
use Rattle.meson_details.specs.declared.details.ValueDetails.TheVariants as details
use Rattle.meson_listing.specs.Entries.{call_data, id_data, item_data, put_each, shown_data, target_data, text_or_null}
use Rattle.meson_listing.specs.Followed.{folder_data, names_or_null, target_with, told_item_data, told_items_data}
use Rattle.meson_listing.specs.Values.{content_data, key_data, told_data, value_data}
use Rattle.meson_plan.specs.Details.{told_sources}
use Rattle.meson_plan.specs.Listing.{call_listing, kwargs_listing, or_not_found, target_at, target_by, target_listing, told, value_listing}
use Rattle.meson_plan.specs.Values.{the_value}
use Rattle.meson_calls.specs.declared.call.CallName.{CallName}

-- ---- the parts

pub text-plain : (text : Option (List ℕ)) → has_float (text_or_null text) ≡ false
text-plain None = refl
text-plain (Some t) = refl

items-plain : (files : List File) (is : List SourceItem) → items_have_float (items_of (map (item_data files) is)) ≡ false
items-plain files [] = refl
items-plain files (i ∷ is) = rw (text-plain i.variable, items-plain files is) refl

texts-plain : (ts : List (List ℕ)) → items_have_float (items_of (map string ts)) ≡ false
texts-plain [] = refl
texts-plain (t ∷ ts) = texts-plain ts

ids-plain : (ts : List (List ℕ)) → items_have_float (items_of (map id_data ts)) ≡ false
ids-plain [] = refl
ids-plain (t ∷ ts) = ids-plain ts

shown-plain : (s : Shown) → has_float (shown_data s) ≡ false
shown-plain (shown.Text text) = refl
shown-plain (shown.Bool b) = refl
shown-plain (shown.Id name) = refl
shown-plain (shown.Texts texts) = texts-plain texts
shown-plain (shown.Ids names) = ids-plain names
shown-plain (shown.Opaque text) = refl

pub either : (a b : Bool) → a ≡ false → b ≡ false → (a || b) ≡ false
either true b p q = p
either false b p q = q

pub first-of : (a b : Bool) → (a || b) ≡ false → a ≡ false
first-of true b h = h
first-of false b h = refl

pub rest-of : (a b : Bool) → (a || b) ≡ false → b ≡ false
rest-of true b h = absurd (let no : ⊥ = cc in no)
rest-of false b h = h

-- what is put before a member, in its place or behind it
placed-plain : (k : List ℕ) (d : Data) (l : List ℕ) (e : Data) (ms : Members) → has_float d ≡ false → has_float e ≡ false → members_have_float ms ≡ false → members_have_float (put k d ms) ≡ false
    → (o : Ordering) → members_have_float (match_ordering o (member k d (member l e ms)) (member l d ms) (member l e (put k d ms))) ≡ false
placed-plain k d l e ms p q r later Less = either (has_float d) (members_have_float (member l e ms)) p (either (has_float e) (members_have_float ms) q r)
placed-plain k d l e ms p q r later Equal = either (has_float d) (members_have_float ms) p r
placed-plain k d l e ms p q r later Greater = either (has_float e) (members_have_float (put k d ms)) q later

pub put-plain : (k : List ℕ) (d : Data) (ms : Members) → has_float d ≡ false → members_have_float ms ≡ false → members_have_float (put k d ms) ≡ false
put-plain k d no_members p q = either (has_float d) false p refl
put-plain k d (member l e ms) p q =
    let first = first-of (has_float e) (members_have_float ms) q in
    let rest = rest-of (has_float e) (members_have_float ms) q in
    placed-plain k d l e ms p first rest (put-plain k d ms p rest) (slice_cmp nat_cmp k l)

each-plain : (ms : Members) (pairs : List (List ℕ × Shown)) → members_have_float ms ≡ false → members_have_float (put_each ms pairs) ≡ false
each-plain ms [] q = q
each-plain ms (p ∷ more) q = each-plain (put p.0 (shown_data p.1) ms) more (put-plain p.0 (shown_data p.1) ms (shown-plain p.1) q)

pub all-plain : {X : Type 0} (data_of : X → Data) (xs : List X) → ((x : X) → has_float (data_of x) ≡ false) → items_have_float (items_of (map data_of xs)) ≡ false
all-plain data_of [] plain = refl
all-plain data_of (x ∷ xs) plain = either (has_float (data_of x)) (items_have_float (items_of (map data_of xs))) (plain x) (all-plain data_of xs plain)

-- ---- what is in a value

told-data-plain : (s : Shown) → has_float (told_data s) ≡ false
told-data-plain (shown.Text text) = refl
told-data-plain (shown.Bool b) = refl
told-data-plain (shown.Id name) = refl
told-data-plain (shown.Texts texts) = texts-plain texts
told-data-plain (shown.Ids names) = ids-plain names
told-data-plain (shown.Opaque text) = refl

key-plain : (k : ArgumentKey) → has_float (key_data k) ≡ false
key-plain (key.Number n) = refl
key-plain (key.Text text) = refl
key-plain (key.Code text) = refl

content-plain : (c : ArgumentKey × Shown) → has_float (content_data c) ≡ false
content-plain c = rw (key-plain c.0, told-data-plain c.1) refl

contents-plain : (cs : List (ArgumentKey × Shown)) → items_have_float (items_of (map content_data cs)) ≡ false
contents-plain cs = all-plain content_data cs content-plain

-- ---- a listing, if it is made

abbrev Plain : Result Data Refusal → Type 0
Plain (Ok d) = has_float d ≡ false
Plain (Err e) = Unit {0}

abbrev PlainIf : Option (Result Data Refusal) → Type 0
PlainIf None = Unit {0}
PlainIf (Some r) = Plain r

then-plain : {A : Type 0} (r : Result A Refusal) (f : A → Result Data Refusal) → ((x : A) → Plain (f x)) → Plain (then_ok r f)
then-plain (Ok x) f h = h x
then-plain (Err e) f h = tt

and-plain : {A : Type 0} (o : Option A) (f : A → Option (Result Data Refusal)) → ((x : A) → PlainIf (f x)) → PlainIf (option_and_then f o)
and-plain None f h = tt
and-plain (Some x) f h = h x

map-plain : {A : Type 0} (o : Option A) (f : A → Result Data Refusal) → ((x : A) → Plain (f x)) → PlainIf (option_map f o)
map-plain None f h = tt
map-plain (Some x) f h = h x

or-plain : (o : Option (Result Data Refusal)) → PlainIf o → Plain (or_not_found o)
or-plain None h = tt
or-plain (Some r) h = h

pub target-plain : (files : List File) (file : ℕ) (h : Head) (s x : Sources) → has_float (target_data files file h s x) ≡ false
unfolding target_data
target-plain files file h s x = rw (items-plain files x.items, text-plain h.name, items-plain files s.items) refl

pub call-plain : (files : List File) (file : ℕ) (h : Head) (pairs : List (List ℕ × Shown)) → has_float (call_data files file h pairs) ≡ false
unfolding call_data
call-plain files file h pairs = rw (each-plain no_members pairs refl) refl

-- of a target whose variables are followed
pub names-plain : (names : Option (List (List ℕ))) → has_float (names_or_null names) ≡ false
names-plain None = refl
names-plain (Some names) = texts-plain names

pub folder-plain : (files : List File) (file : Option ℕ) → has_float (folder_data files file) ≡ false
folder-plain files None = refl
folder-plain files (Some n) = refl

told-item-plain : (files : List File) (t : ToldItem Span) → has_float (told_item_data files t) ≡ false
told-item-plain files t = rw (folder-plain files t.item.way.files, names-plain t.shared, text-plain t.variable) refl

pub target-with-plain : (files : List File) (file : ℕ) (h : Head) (sources : Data) (n : ℕ) (x : Sources) → has_float sources ≡ false → has_float (target_with files file h sources n x) ≡ false
unfolding target_with
target-with-plain files file h sources n x plain = rw (items-plain files x.items, text-plain h.name, plain) refl

target-by-plain : (l : Loaded) (reading : Reading) (c : CallRef) (h : Head) (s x : Sources) → has_float (target_by l reading c h s x) ≡ false
target-by-plain l Written c h s x = target-plain l.files c.file h s x
target-by-plain l Followed c h s x =
    let told = told_sources l c in
    target-with-plain l.files c.file h (told_items_data l.files told.items) told.unknown x (all-plain (told_item_data l.files) told.items (told-item-plain l.files))

target-listing-plain : (l : Loaded) (reading : Reading) (id : CallName) → Plain (target_listing l reading id)
target-listing-plain l reading id = then-plain (the_call (project l) role.Target id) _ (λ c. or-plain (target_at l reading c.place)
    (and-plain (head (project l) c.place) _ (λ h. and-plain (sources (project l) c.place) _ (λ s. map-plain (extra_files (project l) c.place) _
    (λ x. then-plain s _ (λ is. then-plain x _ (λ xs. target-by-plain l reading c.place h is xs)))))))

call-listing-plain : (l : Loaded) (r : Role) (id : CallName) → Plain (kwargs_listing l r id)
call-listing-plain l r id = then-plain (the_call (project l) r id) _ (λ c. or-plain (call_listing l r c.place)
    (and-plain (head (project l) c.place) _ (λ h. map-plain (keywords l r c.place) _ (λ ks. then-plain ks _ (λ pairs. call-plain l.files c.place.file h pairs)))))

pub value-plain : (files : List File) (file offset : ℕ) (d : ValueDetails) → has_float (value_data files file offset d) ≡ false
unfolding value_data
value-plain files file offset (details.Call function name cs) = rw (contents-plain cs, text-plain name) refl
value-plain files file offset (details.List cs) = rw (contents-plain cs) refl
value-plain files file offset (details.Other s) = rw (told-data-plain s) refl

value-listing-plain : (l : Loaded) (n : ValueName) → Plain (value_listing l n)
value-listing-plain l n = then-plain (the_value l n) _ (λ v. value-plain l.files v.file v.span.from v.details)

-- ---- what a command lists

abbrev pub AllPlain : List Data → Type 0
AllPlain ds = items_have_float (items_of ds) ≡ false

one-plain : (r : Result Data Refusal) (more : List Data) → Plain r → then_ok r (λ d. let it : Result (List Data) Refusal = Ok (d ∷ []) in it) ≡ Ok more → AllPlain more
one-plain (Ok d) more h is = subst AllPlain (listed (d ∷ []) more is) (either (has_float d) false h refl)
  where
    listed : (xs ys : List Data) → ◌≡◌ {A = Result (List Data) Refusal} (Ok xs) (Ok ys) → xs ≡ ys
    listed xs ys e = cc
one-plain (Err e) more h is = absurd (let no : ⊥ = cc in no)

none-plain : (more : List Data) → ◌≡◌ {A = Result (List Data) Refusal} (Ok []) (Ok more) → AllPlain more
none-plain more is = let e : more ≡ [] = cc in subst AllPlain (sym e) refl

pub told-plain : (l : Loaded) (c : Command) (more : List Data) → told l c ≡ Ok more → AllPlain more
told-plain l (command.TargetInfo target reading) more is = one-plain (target_listing l reading target) more (target-listing-plain l reading target) is
told-plain l (command.ArgumentInfo name) more is = one-plain (value_listing l name) more (value-listing-plain l name) is
told-plain l (command.KwargsInfo r id) more is = one-plain (kwargs_listing l r id) more (call-listing-plain l r id) is
told-plain l (command.SourcesAdd target sources) more is = none-plain more is
told-plain l (command.SourcesAddSorted target sources) more is = none-plain more is
told-plain l (command.SourcesRemove target sources) more is = none-plain more is
told-plain l (command.SourcesRename target old new) more is = none-plain more is
told-plain l (command.FollowedSources target change shared) more is = none-plain more is
told-plain l (command.ExtraAdd target sources) more is = none-plain more is
told-plain l (command.ExtraRemove target sources) more is = none-plain more is
told-plain l (command.TargetAdd target kind subdir sources) more is = none-plain more is
told-plain l (command.TargetRemove target) more is = none-plain more is
told-plain l (command.KwargsSet r id pairs) more is = none-plain more is
told-plain l (command.KwargsAdd r id pairs) more is = none-plain more is
told-plain l (command.KwargsRemove r id pairs) more is = none-plain more is
told-plain l (command.KwargsDelete r id keys) more is = none-plain more is
told-plain l (command.OptionsSet pairs) more is = none-plain more is
told-plain l (command.OptionsDelete names) more is = none-plain more is
told-plain l (command.Argument name change) more is = none-plain more is
told-plain l (command.CodeInsert place code blank) more is = none-plain more is
told-plain l (command.CodeRemove statement unused) more is = none-plain more is
