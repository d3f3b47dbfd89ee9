-- What the code tells of the sources of a target.
use Rattle.std.specs.Prelude.{◌≡◌, ℕ, Bool, List, [], map, if◌then◌else◌, MatchOption, ⊤, false, Option, Some, None, option_and_then}
use Rattle.std.specs.List.{filter_map}
use Rattle.meson_lex.specs.declared.kinds.Span.{Span}
use Rattle.meson_calls.specs.declared.call.CallRef.{CallRef}
use Rattle.meson_calls.specs.Project.{Project}
use Rattle.meson_following.specs.CodeFollowing.{followed_project, item_view}
use Rattle.meson_following.specs.Following.{Item, Mark, known, opaque, empty}
use Rattle.meson_sharing.specs.declared.told.Answer.{Answer}
use Rattle.meson_sharing.specs.declared.told.Kept.{Kept}
use Rattle.meson_sharing.specs.declared.told.Sharing.{Sharing}
use Rattle.meson_sharing.specs.declared.told.Told as code
use Rattle.meson_sharing.specs.declared.told.ToldItem as code_item
use Rattle.meson_sharing.specs.CodeOwning.{are_closed_by, is_closed_by}
use Rattle.meson_sharing.specs.CodeTargets.{all_targets, sharing_names, target_view}
use Rattle.meson_sharing.specs.Sharing.{names_or_none, variable_of}
use Rattle.meson_sharing.specs.Told.{Told, ToldItem, last_of}

abbrev pub told_item_view : code_item.ToldItem → ToldItem Span
told_item_view i = record { item = item_view i.item; variable = i.variable; shared = i.shared }

abbrev pub told_view : code.Told → Told Span
told_view t = record { items = map told_item_view t.items.items; unknown = t.unknown }

-- which other targets get what is in the value of a maker: of a call that follows these values and has these ways
module _ (p : Project Span) (call : CallRef) (followed ways : List CallRef) where
  abbrev pub sharers_by : CallRef → Option (List (List ℕ))
  sharers_by m = if is_closed_by p false followed ways m then Some [] else names_or_none (sharing_names call m (all_targets p))

  abbrev pub shared_with : Option CallRef → Option (List (List ℕ))
  shared_with None = Some []
  shared_with (Some m) = sharers_by m

  abbrev pub item_by : Item Span → ToldItem Span
  item_by i = record { item = i; variable = option_and_then (variable_of p) (last_of i.way.through); shared = shared_with (last_of i.way.through) }

  abbrev pub mark_by : Mark Span → Option (ToldItem Span)
  mark_by (known i) = Some (item_by i)
  mark_by opaque = None
  mark_by (empty q w) = None

  abbrev pub items_by : List (Mark Span) → List (ToldItem Span)
  items_by marks = filter_map mark_by marks

module _ (s : Sharing) where
  abbrev pub sharers_with : CallRef → Option (List (List ℕ))
  sharers_with = sharers_by (followed_project s.follower) s.call.now s.followed.now s.ways.now

  abbrev pub shared_of : Option CallRef → Option (List (List ℕ))
  shared_of = shared_with (followed_project s.follower) s.call.now s.followed.now s.ways.now

  abbrev pub item_with : Item Span → ToldItem Span
  item_with = item_by (followed_project s.follower) s.call.now s.followed.now s.ways.now

  abbrev pub mark_with : Mark Span → Option (ToldItem Span)
  mark_with = mark_by (followed_project s.follower) s.call.now s.followed.now s.ways.now

  abbrev pub items_with : List (Mark Span) → List (ToldItem Span)
  items_with = items_by (followed_project s.follower) s.call.now s.followed.now s.ways.now

  -- the variable in whose value something is that was met through this one, if it was met through one
  abbrev pub variable_with : Option CallRef → Option (List ℕ)
  variable_with m = option_and_then (variable_of (followed_project s.follower)) m

  -- it is right
  abbrev pub IsAnswered : Answer → Type 0
  IsAnswered b = (b.variable ≡ variable_of (followed_project s.follower) b.maker) × (b.shared ≡ sharers_with b.maker)

  -- so it is, if there is one
  abbrev pub IsAnswer : Option Answer → Type 0
  IsAnswer a = MatchOption a ⊤ IsAnswered

  -- what is in all values that it follows is read for it alone
  abbrev pub are_own : Bool
  are_own = are_closed_by (followed_project s.follower) s.followed.now s.ways.now

  -- what is kept is right: the targets, if there are some, are all of the project
  abbrev pub IsKept : Kept → Type 0
  IsKept k =
      MatchOption k.targets ⊤ (λ ts. map target_view ts.items ≡ all_targets (followed_project s.follower))
      × IsAnswer k.last × MatchOption k.all_own ⊤ (λ b. b ≡ are_own)
