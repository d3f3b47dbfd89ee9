-- What the code's sources, names and homes mean.
use Rattle.std.specs.Prelude.{◌≡◌, ◌≢◌, ℕ, Bool, not, List, [], map, MatchOption, ⊤, Option}
use Rattle.std.specs.List.{list_any}
use Rattle.meson_lex.specs.declared.kinds.Span.{Span}
use Rattle.meson_calls.specs.declared.call.CallRef.{CallRef}
use Rattle.meson_calls.specs.Calls.{Call}
use Rattle.meson_calls.specs.Project.{Placed, Project}
use Rattle.meson_following.specs.CodeFollowing.{followed_project, item_view}
use Rattle.meson_following.specs.Following.{follow_marks}
use Rattle.meson_sharing.specs.CodeOwning.{is_closed_by}
use Rattle.meson_sharing.specs.Told.{last_of}
use Rattle.meson_followed.specs.declared.adding.Addition.{Addition}
use Rattle.meson_followed.specs.declared.asking.Answer.{Answer}
use Rattle.meson_followed.specs.declared.asking.Asking.{Asking}
use Rattle.meson_followed.specs.declared.homes.Home as code_home
use Rattle.meson_followed.specs.declared.homes.Homes as code_homes
use Rattle.meson_followed.specs.declared.named.Named.{Named}
use Rattle.meson_followed.specs.declared.sources.MetSource as code
use Rattle.meson_steps.specs.declared.source_change.SharedLists.{SharedLists}
use Rattle.meson_followed.specs.FollowedEdits.{is_sure_at, new_sources}
use Rattle.meson_followed.specs.Homes.{Home, Homes, home}
use Rattle.meson_followed.specs.Sources.{MetSource, named_path, sources_of, spot_of_item}

abbrev pub met_view : code.MetSource → MetSource
met_view s = record { path = s.path; sure = s.item.now.way.sure; base = s.base; spot = spot_of_item (item_view s.item.now); maker = last_of s.item.now.way.through.items }

-- ---- names

abbrev pub name_now : Named → List ℕ
name_now n = n.name.now

abbrev pub path_now : Named → List ℕ
path_now n = n.path

-- these names, each with its path
pub record AreNamed (p : Project Span) (number : ℕ) (names : List (List ℕ)) (named : List Named) : Type 0 where
  pub are_names : map name_now named ≡ names
  pub are_paths : map path_now named ≡ map (named_path p number) names

-- its path has no sure source
abbrev pub is_missing : List MetSource → Named → Bool
is_missing sources n = not (list_any (is_sure_at (path_now n)) sources)

-- ---- lists that get sources

abbrev pub home_view : code_home.Home → Home
home_view h = record { list = h.list; maker = h.maker }

abbrev pub homes_view : code_homes.Homes → Homes
homes_view hs = record { holding = map home_view hs.holding.items; empties = map home_view hs.empties.items }

-- ---- whether lists are read for one target alone

-- whether what is in the value of a maker is read so
abbrev pub asked : Asking → CallRef → Bool
asked a m = is_closed_by (followed_project a.follower) a.with_uses a.followed.now a.ways.now m

abbrev pub IsAnswered : Asking → Answer → Type 0
IsAnswered a x = x.is ≡ asked a x.maker

-- the last answer is right, if there is one
abbrev pub IsAnswer : Asking → Option Answer → Type 0
IsAnswer a o = MatchOption o ⊤ (IsAnswered a)

-- ---- additions

abbrev pub new_names : Addition → List (List ℕ)
new_names a = map (λ x. x.now) a.new.items

-- the names that are new, and the list that gets them, if there are any
pub record IsAddition (p : Project Span) (c : Placed (Call Span)) (shared : SharedLists) (names : List (List ℕ)) (a : Addition) : Type 0 where
  pub is_list : new_names a ≢ [] → a.list ≡ home p c shared (follow_marks p c)
  pub are_new : new_names a ≡ new_sources p c.place.file (sources_of p c.place.file (follow_marks p c)) names
