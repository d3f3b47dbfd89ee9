-- A listing goes by the files and the trees of a project.
use Rattle.std.proofs.Common.{◌≡◌, ◌∙◌, ℕ, List, Result, Ok, ap, ap₂}
use Rattle.std.specs.Prelude.{ok_or, option_and_then, option_map}
use Rattle.serde_json.specs.Data.{Data}
use Rattle.meson_lex.specs.declared.kinds.Span.{Span}
use Rattle.meson_splice.specs.declared.file_set.File.{File}
use Rattle.meson_splice.specs.Files.{bytes_at}
use Rattle.meson_splice.specs.Patch.{then_ok}
use Rattle.meson_calls.specs.declared.call.CallRef.{CallRef}
use Rattle.meson_calls.specs.declared.call.Reading.{Reading}
use Rattle.meson_calls.specs.declared.call.Reading.TheVariants.{Written, Followed}
use Rattle.meson_calls.specs.declared.call.Role.{Role}
use Rattle.meson_calls.specs.declared.call.Role.TheVariants as role
use Rattle.meson_calls.specs.declared.refusal.Refusal.{Refusal}
use Rattle.meson_calls.specs.declared.refusal.Refusal.TheVariants.{NotFound}
use Rattle.meson_calls.specs.Finding.{the_call}
use Rattle.meson_calls.specs.Loading.{Loaded, named_trees, trees}
use Rattle.meson_calls.specs.Project.{Project, expression_at}
use Rattle.meson_calls.specs.CallPlaces.{call_at}
use Rattle.meson_variables.specs.declared.source.Sources.{Sources}
use Rattle.meson_variables.specs.TargetSources.{sources}
use Rattle.meson_sharing.specs.Told.{told_at}
use Rattle.meson_sources.specs.Extras.{extra_files}
use Rattle.meson_details.specs.declared.details.Head.{Head}
use Rattle.meson_details.specs.Details.{head, keywords_of_call}
use Rattle.meson_steps.specs.declared.argument.ValueName.{ValueName}
use Rattle.meson_places.proofs.OneMeaning.{value_places_same}
use Rattle.meson_places.specs.NamedValues.{value_place}
use Rattle.meson_listing.specs.Entries.{target_data, call_data}
use Rattle.meson_listing.specs.Followed.{followed_data}
use Rattle.meson_listing.specs.Values.{value_data}
use Rattle.meson_plan.specs.Listing.{kwargs_listing, or_not_found, target_listing, value_listing}
use Rattle.meson_plan.specs.Values.{found_at, found_in}
use Rattle.meson_calls.specs.declared.call.CallName.{CallName}

-- the listing of a target of these files and this project
abbrev target_data_of : List File → Project Span → Reading → CallRef → Head → Sources → Sources → Data
target_data_of files p Written c h is xs = target_data files c.file h is xs
target_data_of files p Followed c h is xs = followed_data files c.file h (told_at p c) xs

abbrev pub target_of : List File → Project Span → Reading → CallName → Result Data Refusal
target_of files p reading id =
    then_ok (the_call p role.Target id) (λ c. or_not_found
    (option_and_then (λ h. option_and_then (λ s. option_map (λ x. then_ok s (λ is. then_ok x (λ xs. Ok (target_data_of files p reading c.place h is xs))))
    (extra_files p c.place)) (sources p c.place)) (head p c.place)))

-- the listing of the keyword arguments of a call
abbrev pub call_of : List File → Project Span → Role → CallName → Result Data Refusal
call_of files p r id =
    then_ok (the_call p r id) (λ c. or_not_found
    (option_and_then (λ h. option_map (λ ks. then_ok ks (λ pairs. Ok (call_data files c.place.file h pairs)))
    (option_map (λ found. keywords_of_call (bytes_at c.place.file files) r found.it) (call_at p c.place))) (head p c.place)))

pub targets-same : (p q : Loaded) (reading : Reading) (id : CallName) → p.files ≡ q.files → trees p ≡ trees q → target_listing p reading id ≡ target_listing q reading id
targets-same p q Written id files same = ap₂ (λ fs ts. target_of fs (named_trees fs ts) Written id) files same
targets-same p q Followed id files same = ap₂ (λ fs ts. target_of fs (named_trees fs ts) Followed id) files same

pub calls-same : (p q : Loaded) (r : Role) (id : CallName) → p.files ≡ q.files → trees p ≡ trees q → kwargs_listing p r id ≡ kwargs_listing q r id
calls-same p q r id files same = ap₂ (λ fs ts. call_of fs (named_trees fs ts) r id) files same

pub values-same : (p q : Loaded) (n : ValueName) → p.files ≡ q.files → trees p ≡ trees q → value_listing p n ≡ value_listing q n
values-same p q n files same =
    ap (λ r. then_ok (then_ok r (λ c. ok_or (found_at p c) NotFound)) (λ v. Ok (value_data p.files v.file v.span.from v.details))) (value_places_same p q files same n)
    ∙ ap₂ (λ fs ts. then_ok (then_ok (value_place q n) (λ c. ok_or (option_map (found_in (bytes_at c.file fs) c.file) (expression_at (named_trees fs ts) c)) NotFound))
    (λ v. Ok (value_data fs v.file v.span.from v.details)))
    files same
