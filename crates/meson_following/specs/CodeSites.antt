-- What is met at a site of the code.
use Rattle.std.specs.Prelude.{ℕ, ◌-◌, Bool, List, Some, if◌then◌else◌}
use Rattle.meson_lex.specs.declared.kinds.Span.{Span}
use Rattle.meson_syntax.specs.Tree.{Argument, Arguments, Expression, Listing, Operands}
use Rattle.meson_calls.specs.declared.call.CallRef.{CallRef}
use Rattle.meson_calls.specs.Project.{Project}
use Rattle.meson_variables.specs.Expansion.{is_files}
use Rattle.meson_following.specs.declared.site.Site.{Site}
use Rattle.meson_following.specs.CodeFollowing.{followed_project, route_view}
use Rattle.meson_following.specs.Following.{Following, Stand, Way, files_way, follow_argument, follow_each, follow_known, follow_left, follow_listing, follow_maker, follow_makers, follow_operands, follow_variable, inside, met, opaque, then_follow, unsure_way, within}
use Rattle.meson_following.specs.Lists.{is_list}
use Rattle.meson_following.specs.Makers.{Made, Maker}

module _ (s : Site) where
  abbrev pub project_at : Project Span
  project_at = followed_project s.follower

  abbrev pub way_at : Way
  way_at = route_view s.route

  abbrev pub expression_met : Expression Span → Stand → List CallRef → Following Span
  expression_met = follow_left project_at s.left

  abbrev pub listing_met : Listing Span → CallRef → List CallRef → Following Span
  listing_met l q = follow_listing (is_list project_at) (follow_variable project_at s.left) l q way_at

  abbrev pub each_met : Arguments Span → ℕ → CallRef → List CallRef → Following Span
  each_met list n q = follow_each (is_list project_at) (follow_variable project_at s.left) list n q way_at

  abbrev pub argument_met : Argument Span → Stand → List CallRef → Following Span
  argument_met = follow_argument (is_list project_at) (follow_variable project_at s.left)

  abbrev pub call_met : List ℕ → Listing Span → CallRef → List CallRef → Following Span
  call_met f l q followed =
      let way = files_way q.file way_at in
      if is_files f l then within q way (follow_listing (is_list project_at) (follow_variable project_at s.left) l q way followed) else met opaque followed

  abbrev pub answers_met : Expression Span → Expression Span → CallRef → List CallRef → Following Span
  answers_met y n q followed =
      then_follow (expression_met y (inside q (unsure_way way_at) 1) followed) (λ now. expression_met n (inside q (unsure_way way_at) 2) now)

  abbrev pub operands_met : Operands Span → ℕ → CallRef → List CallRef → Following Span
  operands_met os n q = follow_operands (is_list project_at) (follow_variable project_at s.left) os n q way_at

  abbrev pub sum_met : Expression Span → Operands Span → CallRef → List CallRef → Following Span
  sum_met e os q followed = then_follow (expression_met e (inside q way_at 0) followed) (λ now. operands_met os 1 q now)

  abbrev pub variable_met : CallRef → List ℕ → List CallRef → Following Span
  variable_met q x = follow_variable project_at s.left q x way_at

  -- where this number of makers may still be followed, but one
  abbrev pub known_met : Made Span → List CallRef → Following Span
  known_met k = follow_known project_at (follow_left project_at (s.left - 1)) way_at (Some k)

  abbrev pub maker_met : Bool → Maker Span → List CallRef → Following Span
  maker_met = follow_maker project_at (follow_left project_at (s.left - 1)) way_at

  abbrev pub makers_met : Bool → List (Maker Span) → List CallRef → Following Span
  makers_met = follow_makers project_at (follow_left project_at (s.left - 1)) way_at
