-- Listings with positions: none holds a number with a fraction, and there is one where there is one without positions.
use Rattle.std.proofs.Common.{◌≡◌, ◌∙◌, ℕ, false, List, [], ◌∷◌, codes, Option, Some, None, Result, Ok, Err, refl, sym, ap, subst}
use Rattle.std.specs.Prelude.{option_and_then, option_map, option_to_list}
use Rattle.std.proofs.lemmas.List.{append-nil}
use Rattle.serde_json.specs.Data.{Data, Members, null, boolean, number, string, array, object, no_members, put}
use Rattle.serde_json.specs.Written.{has_float, members_have_float}
use Rattle.meson_lex.specs.declared.kinds.Span.{Span}
use Rattle.meson_splice.specs.Patch.{then_ok}
use Rattle.meson_splice.specs.declared.file_set.File.{File}
use Rattle.meson_calls.specs.declared.call.CallRef.{CallRef}
use Rattle.meson_calls.specs.declared.call.Reading.{Reading}
use Rattle.meson_calls.specs.declared.call.Reading.TheVariants.{Written, Followed}
use Rattle.meson_calls.specs.declared.call.Role.{Role}
use Rattle.meson_calls.specs.declared.call.Role.TheVariants as role
use Rattle.meson_calls.specs.declared.refusal.Refusal.{Refusal}
use Rattle.meson_calls.specs.Calls.{Call}
use Rattle.meson_calls.specs.Finding.{the_call}
use Rattle.meson_calls.specs.Loading.{Loaded, project}
use Rattle.meson_calls.specs.Project.{expression_at}
use Rattle.meson_calls.specs.Project as calls
use Rattle.meson_variables.specs.TargetSources.{sources}
use Rattle.meson_variables.specs.declared.source.SourceItem.{SourceItem}
use Rattle.meson_variables.specs.declared.source.Sources.{Sources}
use Rattle.meson_sharing.specs.Told.{Told, ToldItem}
use Rattle.meson_sources.specs.Extras.{extra_files}
use Rattle.meson_details.specs.Details.{head}
use Rattle.meson_details.specs.declared.details.Head.{Head}
use Rattle.meson_details.specs.declared.details.Shown.{Shown}
use Rattle.meson_steps.specs.declared.argument.ValueName.{ValueName}
use Rattle.meson_steps.specs.declared.command.Command.{Command}
use Rattle.meson_steps.specs.declared.command.Command.TheVariants as command
use Rattle.meson_listing.specs.Entries.{call_data, target_data}
use Rattle.meson_listing.specs.Followed.{target_with}
use Rattle.meson_listing.specs.Values.{value_data}
use Rattle.meson_plan.specs.Details as details
use Rattle.meson_plan.specs.Details.{no_extra, no_sources, place_found, told_sources, untold}
use Rattle.meson_plan.specs.Listing.{asks, call_listing, kwargs_listing, or_not_found, target_at, target_by, target_listing, told, value_listing}
use Rattle.meson_plan.specs.Values.{the_value}
use Rattle.meson_plan.specs.declared.values.FoundValue.{FoundValue}
use Rattle.meson_plan.specs.declared.details.TargetDetails.{TargetDetails}
use Rattle.meson_inventory.specs.Info.{HasNoCallInfo, HasNoInfo, HasNoTargetInfo, HasNoValueInfo, IsCallInfo, IsInfo, IsTargetInfo, IsValueInfo, keyword_place_data, not_found, offset_data, placed_by, placed_followed_data, placed_item_data, placed_items_data, placed_kwargs_data, placed_target_data, placed_told_data, placed_tolds_data, places_data, places_of_call, put_places, span_at, twice, with_members, with_position}
use Rattle.meson_inventory.specs.Placed.{character_at, line_at}
use Rattle.meson_script.specs.declared.listings.ListingForm.{ListingForm}
use Rattle.meson_script.specs.declared.listings.ListingForm.TheVariants.{Plain, Placed}
use Rattle.meson_script.specs.Listings.{Added, Lists, listings_text}
use Rattle.meson_script.proofs.PlainListings.{AllPlain, all-plain, call-plain, either, folder-plain, names-plain, put-plain, target-plain, target-with-plain, text-plain, told-plain, value-plain}
use Rattle.meson_calls.specs.declared.call.CallName.{CallName}

-- ---- numbers

members-plain : (f : Members → Members) (d : Data) → has_float d ≡ false → ((ms : Members) → members_have_float ms ≡ false → members_have_float (f ms) ≡ false)
    → has_float (with_members f d) ≡ false
members-plain f null p h = p
members-plain f (boolean b) p h = p
members-plain f (number n) p h = p
members-plain f (string t) p h = p
members-plain f (array is) p h = p
members-plain f (object ms) p h = h ms p

position-plain : (files : List File) (file : ℕ) (span : Span) (ms : Members) → members_have_float ms ≡ false → members_have_float (with_position files file span ms) ≡ false
position-plain files file span ms p =
    let first = put (codes "character") (character_at files file span.from) ms in
    let both = put (codes "end") (offset_data files file span.to) first in
    put-plain (codes "line") (line_at files file span.from) both refl (put-plain (codes "end") (offset_data files file span.to) first refl
    (put-plain (codes "character") (character_at files file span.from) ms refl p))

items-plain : (files : List File) (is : List SourceItem) → has_float (placed_items_data files is) ≡ false
items-plain files is = all-plain (placed_item_data files) is (λ i. rw (text-plain i.variable) refl)

target-placed-plain : (files : List File) (span : Span) (t : TargetDetails) → has_float (placed_target_data files span t) ≡ false
target-placed-plain files span t =
    let extra = placed_items_data files t.extra_files.items in
    let sources = placed_items_data files t.sources.items in
    members-plain (λ ms. with_position files t.place.file span (put (codes "sources") sources (put (codes "extra_files") extra ms)))
    (target_data files t.place.file t.head t.sources t.extra_files) (target-plain files t.place.file t.head t.sources t.extra_files) (λ ms p.
    let with_extra = put (codes "extra_files") extra ms in
    position-plain files t.place.file span (put (codes "sources") sources with_extra) (put-plain (codes "sources") sources with_extra
    (items-plain files t.sources.items) (put-plain (codes "extra_files") extra ms (items-plain files t.extra_files.items) p)))

places-plain : (files : List File) (file : ℕ) (ps : List _) (ms : Members) → members_have_float ms ≡ false → members_have_float (put_places files file ms ps) ≡ false
places-plain files file [] ms q = q
places-plain files file (p ∷ ps) ms q = places-plain files file ps _ (put-plain p.key (keyword_place_data files file p) ms refl q)

kwargs-placed-plain : (files : List File) (file : ℕ) (span : Span) (head : Head) (pairs : List (List ℕ × Shown)) (ps : List _)
    → has_float (placed_kwargs_data files file span head pairs ps) ≡ false
kwargs-placed-plain files file span head pairs ps =
    let places = places_data files file ps in
    members-plain (λ ms. with_position files file span (put (codes "places") places ms)) (call_data files file head pairs) (call-plain files file head pairs) (λ ms p.
    position-plain files file span (put (codes "places") places ms) (put-plain (codes "places") places ms (places-plain files file ps no_members refl) p))

told-plain-at : (files : List File) (t : ToldItem Span) → has_float (placed_told_data files t) ≡ false
told-plain-at files t = rw (folder-plain files t.item.way.files, names-plain t.shared, text-plain t.variable) refl

followed-placed-plain : (files : List File) (span : Span) (t : TargetDetails) (told : Told Span) → has_float (placed_followed_data files span t told) ≡ false
followed-placed-plain files span t told =
    let extra = placed_items_data files t.extra_files.items in
    let sources = placed_tolds_data files told.items in
    members-plain (λ ms. with_position files t.place.file span (put (codes "extra_files") extra ms))
    (target_with files t.place.file t.head sources told.unknown t.extra_files)
    (target-with-plain files t.place.file t.head sources told.unknown t.extra_files (all-plain (placed_told_data files) told.items (told-plain-at files))) (λ ms p.
    position-plain files t.place.file span (put (codes "extra_files") extra ms) (put-plain (codes "extra_files") extra ms (items-plain files t.extra_files.items) p))

placed-by-plain : (l : Loaded) (reading : Reading) (span : Span) (t : TargetDetails) → has_float (placed_by l reading span t) ≡ false
placed-by-plain l Written span t = target-placed-plain l.files span t
placed-by-plain l Followed span t = followed-placed-plain l.files span t (told_sources l t.place)

target-info-plain : (l : Loaded) (reading : Reading) (id : CallName) (d : Data) → IsTargetInfo l reading id d → has_float d ≡ false
target-info-plain l reading id d i = ap has_float i.is ∙ placed-by-plain l reading (span_at l i.told.place) i.told

call-info-plain : (l : Loaded) (role : Role) (id : CallName) (d : Data) → IsCallInfo l role id d → has_float d ≡ false
call-info-plain l role id d i =
    ap has_float i.is ∙ kwargs-placed-plain l.files i.place.file (span_at l i.place) i.its_head i.pairs (places_of_call role (expression_at (project l) i.place))

value-info-plain : (l : Loaded) (n : ValueName) (d : Data) → IsValueInfo l n d → has_float d ≡ false
value-info-plain l n d i =
    let v = i.value in
    ap has_float i.is
    ∙ members-plain (with_position l.files v.file v.span) (value_data l.files v.file v.span.from v.details) (value-plain l.files v.file v.span.from v.details)
    (λ ms p. position-plain l.files v.file v.span ms p)

info-plain : (l : Loaded) (c : Command) (d : Data) → IsInfo l c (Some d) → has_float d ≡ false
info-plain l (command.TargetInfo id reading) d i = target-info-plain l reading id d i
info-plain l (command.KwargsInfo role id) d i = call-info-plain l role id d i
info-plain l (command.ArgumentInfo name) d i = value-info-plain l name d i
info-plain l (command.SourcesAdd target sources) d i = absurd (let no : ⊥ = cc in no)
info-plain l (command.SourcesAddSorted target sources) d i = absurd (let no : ⊥ = cc in no)
info-plain l (command.SourcesRemove target sources) d i = absurd (let no : ⊥ = cc in no)
info-plain l (command.SourcesRename target old new) d i = absurd (let no : ⊥ = cc in no)
info-plain l (command.FollowedSources target change shared) d i = absurd (let no : ⊥ = cc in no)
info-plain l (command.ExtraAdd target sources) d i = absurd (let no : ⊥ = cc in no)
info-plain l (command.ExtraRemove target sources) d i = absurd (let no : ⊥ = cc in no)
info-plain l (command.TargetAdd target kind subdir sources) d i = absurd (let no : ⊥ = cc in no)
info-plain l (command.TargetRemove target) d i = absurd (let no : ⊥ = cc in no)
info-plain l (command.KwargsSet r id pairs) d i = absurd (let no : ⊥ = cc in no)
info-plain l (command.KwargsAdd r id pairs) d i = absurd (let no : ⊥ = cc in no)
info-plain l (command.KwargsRemove r id pairs) d i = absurd (let no : ⊥ = cc in no)
info-plain l (command.KwargsDelete r id keys) d i = absurd (let no : ⊥ = cc in no)
info-plain l (command.OptionsSet pairs) d i = absurd (let no : ⊥ = cc in no)
info-plain l (command.OptionsDelete names) d i = absurd (let no : ⊥ = cc in no)
info-plain l (command.Argument name change) d i = absurd (let no : ⊥ = cc in no)
info-plain l (command.CodeInsert place code blank) d i = absurd (let no : ⊥ = cc in no)
info-plain l (command.CodeRemove statement unused) d i = absurd (let no : ⊥ = cc in no)

option-plain : (l : Loaded) (c : Command) (info : Option Data) → IsInfo l c info → AllPlain (option_to_list info)
option-plain l c None is = refl
option-plain l c (Some d) is = either (has_float d) false (info-plain l c d is) refl

pub lists-plain : (form : ListingForm) (l : Loaded) (c : Command) (ds : List Data) → Lists form l c ds → AllPlain ds
lists-plain Plain l c ds is = told-plain l c ds is
lists-plain Placed l c ds (info, is, same) = subst AllPlain (sym same) (option-plain l c info is)

-- ---- what has none with positions has none without

no-call : (found : Result (calls.Placed (Call Span)) Refusal) (e : Refusal) → place_found found ≡ Err e → (f : CallRef → Result Data Refusal) (d : Data)
    → then_ok found (λ c. f c.place) ≡ Ok d → ⊥
no-call (Ok c) e is f d told = let no : ⊥ = cc in no
no-call (Err w) e is f d told = let no : ⊥ = cc in no

-- what is listed of the call that is found is that of its place
at-place : (found : Result (calls.Placed (Call Span)) Refusal) (place : CallRef) → place_found found ≡ Ok place → (f : CallRef → Result Data Refusal) (d : Data)
    → then_ok found (λ c. f c.place) ≡ Ok d → f place ≡ Ok d
at-place (Ok c) place is f d told = let same : c.place ≡ place = cc in ap f (sym same) ∙ told
at-place (Err w) place is f d told = absurd (let no : ⊥ = cc in no)

module _ (data_by : Head → Sources → Sources → Data) where
  abbrev target-of : Option Head → Option (Result Sources Refusal) → Option (Result Sources Refusal) → Result Data Refusal
  target-of h s x = or_not_found (option_and_then (λ k. option_and_then (λ r. option_map (λ q. then_ok r (λ is. then_ok q (λ ys. Ok (data_by k is ys)))) x) s) h)

  no-sources-listed : (h : Option Head) (x : Option (Result Sources Refusal)) (e : Refusal) (d : Data) → target-of h (Some (Err e)) x ≡ Ok d → ⊥
  no-sources-listed None x e d told = let no : ⊥ = cc in no
  no-sources-listed (Some k) None e d told = let no : ⊥ = cc in no
  no-sources-listed (Some k) (Some q) e d told = let no : ⊥ = cc in no

  no-extra-listed : (h : Option Head) (found : Sources) (e : Refusal) (d : Data) → target-of h (Some (Ok found)) (Some (Err e)) ≡ Ok d → ⊥
  no-extra-listed None found e d told = let no : ⊥ = cc in no
  no-extra-listed (Some k) found e d told = let no : ⊥ = cc in no

no-target-listing : (l : Loaded) (reading : Reading) (id : CallName) (why : Refusal) (d : Data) → HasNoTargetInfo l id why → target_listing l reading id ≡ Ok d → ⊥
no-target-listing l reading id why d (details.not_found w is) told = no-call (the_call (project l) role.Target id) w is (λ place. or_not_found (target_at l reading place)) d told
no-target-listing l reading id why d (untold place w is (no_sources v none)) told =
    let there = at-place (the_call (project l) role.Target id) place is (λ q. or_not_found (target_at l reading q)) d told in
    no-sources-listed (target_by l reading place) (head (project l) place) (extra_files (project l) place) v d
    (subst (λ s. target-of (target_by l reading place) (head (project l) place) s (extra_files (project l) place) ≡ Ok d) none there)
no-target-listing l reading id why d (untold place w is (no_extra found v some none)) told =
    let there = at-place (the_call (project l) role.Target id) place is (λ q. or_not_found (target_at l reading q)) d told in
    let first = subst (λ s. target-of (target_by l reading place) (head (project l) place) s (extra_files (project l) place) ≡ Ok d) some there in
    no-extra-listed (target_by l reading place) (head (project l) place) found v d
    (subst (λ x. target-of (target_by l reading place) (head (project l) place) (Some (Ok found)) x ≡ Ok d) none first)

-- of a call with a keyword argument that is there twice
abbrev call-of : List File → ℕ → Option Head → Option (Result (List (List ℕ × Shown)) Refusal) → Result Data Refusal
call-of files file h ks = or_not_found (option_and_then (λ k. option_map (λ ps. then_ok ps (λ pairs. Ok (call_data files file k pairs))) ks) h)

no-pairs-listed : (files : List File) (file : ℕ) (h : Option Head) (e : Refusal) (d : Data) → call-of files file h (Some (Err e)) ≡ Ok d → ⊥
no-pairs-listed files file None e d told = let no : ⊥ = cc in no
no-pairs-listed files file (Some k) e d told = let no : ⊥ = cc in no

no-call-listing : (l : Loaded) (role : Role) (id : CallName) (why : Refusal) (d : Data) → HasNoCallInfo l role id why → kwargs_listing l role id ≡ Ok d → ⊥
no-call-listing l role id why d (not_found w is) told = no-call (the_call (project l) role id) w is (λ place. or_not_found (call_listing l role place)) d told
no-call-listing l role id why d (twice place w is none) told =
    let there = at-place (the_call (project l) role id) place is (λ q. or_not_found (call_listing l role q)) d told in
    no-pairs-listed l.files place.file (head (project l) place) w d (subst (λ ks. call-of l.files place.file (head (project l) place) ks ≡ Ok d) none there)

no-value : (r : Result FoundValue Refusal) (why : Refusal) (f : FoundValue → Result Data Refusal) (d : Data) → r ≡ Err why → then_ok r f ≡ Ok d → ⊥
no-value (Ok v) why f d is told = let no : ⊥ = cc in no
no-value (Err e) why f d is told = let no : ⊥ = cc in no

no-value-listing : (l : Loaded) (n : ValueName) (why : Refusal) (d : Data) → HasNoValueInfo l n why → value_listing l n ≡ Ok d → ⊥
no-value-listing l n why d h told = no-value (the_value l n) why (λ v. Ok (value_data l.files v.file v.span.from v.details)) d h told

one-told : (r : Result Data Refusal) (ds : List Data) → then_ok r (λ d. let it : Result (List Data) Refusal = Ok (d ∷ []) in it) ≡ Ok ds → (d : Data) × (r ≡ Ok d)
one-told (Ok d) ds is = (d, refl)
one-told (Err e) ds is = absurd (let no : ⊥ = cc in no)

pub no-info : (l : Loaded) (c : Command) (why : Refusal) (ds : List Data) → HasNoInfo l c why → told l c ≡ Ok ds → ⊥
no-info l (command.TargetInfo id reading) why ds h is = let d = one-told (target_listing l reading id) ds is in no-target-listing l reading id why d.0 h d.1
no-info l (command.KwargsInfo role id) why ds h is = let d = one-told (kwargs_listing l role id) ds is in no-call-listing l role id why d.0 h d.1
no-info l (command.ArgumentInfo name) why ds h is = let d = one-told (value_listing l name) ds is in no-value-listing l name why d.0 h d.1
no-info l (command.SourcesAdd target sources) why ds h is = h
no-info l (command.SourcesAddSorted target sources) why ds h is = h
no-info l (command.SourcesRemove target sources) why ds h is = h
no-info l (command.SourcesRename target old new) why ds h is = h
no-info l (command.FollowedSources target change shared) why ds h is = h
no-info l (command.ExtraAdd target sources) why ds h is = h
no-info l (command.ExtraRemove target sources) why ds h is = h
no-info l (command.TargetAdd target kind subdir sources) why ds h is = h
no-info l (command.TargetRemove target) why ds h is = h
no-info l (command.KwargsSet r id pairs) why ds h is = h
no-info l (command.KwargsAdd r id pairs) why ds h is = h
no-info l (command.KwargsRemove r id pairs) why ds h is = h
no-info l (command.KwargsDelete r id keys) why ds h is = h
no-info l (command.OptionsSet pairs) why ds h is = h
no-info l (command.OptionsDelete names) why ds h is = h
no-info l (command.Argument name change) why ds h is = h
no-info l (command.CodeInsert place code blank) why ds h is = h
no-info l (command.CodeRemove statement unused) why ds h is = h

-- ---- a command that changes files lists nothing

lists-in : (form : ListingForm) (l : Loaded) (c : Command) → told l c ≡ Ok [] → IsInfo l c None → Lists form l c []
lists-in Plain l c none is = none
lists-in Placed l c none is = (None, is, refl)

lists-nothing : (l : Loaded) (c : Command) → asks c ≡ false → (told l c ≡ Ok []) × IsInfo l c None
lists-nothing l (command.TargetInfo id reading) quiet = absurd (let bad : ⊥ = cc in bad)
lists-nothing l (command.KwargsInfo role id) quiet = absurd (let bad : ⊥ = cc in bad)
lists-nothing l (command.ArgumentInfo name) quiet = absurd (let bad : ⊥ = cc in bad)
lists-nothing l (command.SourcesAdd target ss) quiet = (refl, refl)
lists-nothing l (command.SourcesAddSorted target ss) quiet = (refl, refl)
lists-nothing l (command.SourcesRemove target ss) quiet = (refl, refl)
lists-nothing l (command.SourcesRename target old new) quiet = (refl, refl)
lists-nothing l (command.FollowedSources target change shared) quiet = (refl, refl)
lists-nothing l (command.ExtraAdd target ss) quiet = (refl, refl)
lists-nothing l (command.ExtraRemove target ss) quiet = (refl, refl)
lists-nothing l (command.TargetAdd target kind subdir ss) quiet = (refl, refl)
lists-nothing l (command.TargetRemove target) quiet = (refl, refl)
lists-nothing l (command.KwargsSet r id pairs) quiet = (refl, refl)
lists-nothing l (command.KwargsAdd r id pairs) quiet = (refl, refl)
lists-nothing l (command.KwargsRemove r id pairs) quiet = (refl, refl)
lists-nothing l (command.KwargsDelete r id keys) quiet = (refl, refl)
lists-nothing l (command.OptionsSet pairs) quiet = (refl, refl)
lists-nothing l (command.OptionsDelete names) quiet = (refl, refl)
lists-nothing l (command.Argument name change) quiet = (refl, refl)
lists-nothing l (command.CodeInsert place code blank) quiet = (refl, refl)
lists-nothing l (command.CodeRemove statement unused) quiet = (refl, refl)

pub lists-none : (form : ListingForm) (l : Loaded) (c : Command) (shown : List Data) (text : List ℕ) → asks c ≡ false → text ≡ listings_text shown → Added form l c shown text
lists-none form l c shown text quiet is =
    let none = lists-nothing l c quiet in
    record { plain = []; is_plain = none.0; more = []; lists = lists-in form l c none.0 none.1; is_text = is ∙ ap listings_text (sym (append-nil shown)) }
