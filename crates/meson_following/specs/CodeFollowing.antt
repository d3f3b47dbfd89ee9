-- What the code's marks mean.
use Rattle.std.specs.Prelude.{◌≡◌, Bool, List, map}
use Rattle.meson_lex.specs.declared.kinds.Span.{Span}
use Rattle.meson_syntax.specs.Tree.{Expression}
use Rattle.meson_syntax.specs.View.{expr_view}
use Rattle.meson_calls.specs.declared.call.CallRef.{CallRef}
use Rattle.meson_calls.specs.Loading.{loaded_from, project}
use Rattle.meson_calls.specs.Project.{Project}
use Rattle.meson_following.specs.declared.follower.Follower.{Follower}
use Rattle.meson_following.specs.declared.follower.Value.{Value}
use Rattle.meson_following.specs.declared.marks.Following as code_following
use Rattle.meson_following.specs.declared.marks.Item as code_item
use Rattle.meson_following.specs.declared.marks.Mark as code_mark
use Rattle.meson_following.specs.declared.marks.Mark.TheVariants as mark
use Rattle.meson_following.specs.declared.marks.Route.{Route}
use Rattle.meson_following.specs.declared.marks.Way as code_way
use Rattle.meson_following.specs.Following.{Following, Item, Mark, Stand, Way, empty, known, opaque, then_follow}

abbrev pub way_view : code_way.Way → Way
way_view w = record { sure = w.sure; files = w.files; through = w.through.items }

abbrev pub item_view : code_item.Item → Item Span
item_view i = record { text = i.text; stands = i.span; place = i.place; listed = i.listed; way = way_view i.way }

abbrev pub mark_view : code_mark.Mark → Mark Span
mark_view (mark.Known i) = known (item_view i)
mark_view mark.Opaque = opaque
mark_view (mark.Empty q w) = empty q (way_view w)

abbrev pub following_view : code_following.Following → Following Span
following_view f = record { marks = map mark_view f.marks.items; followed = f.followed.items }

-- more is met after what was met before
abbrev pub Follows : code_following.Following → (List CallRef → Following Span) → code_following.Following → Type 0
Follows old more new = following_view new ≡ then_follow (following_view old) more

-- ---- where something is met

abbrev pub route_view : Route → Way
route_view r = record { sure = r.sure; files = r.files; through = r.through.now }

abbrev pub stand_on : Route → CallRef → (listed : Bool) → Stand
stand_on r q listed = record { place = q; listed = listed; way = route_view r }

-- ---- a project

abbrev pub followed_project : Follower → Project Span
followed_project f = project (loaded_from f.files.now f.trees.now)

abbrev pub value_view : Value → Expression Span
value_view v = expr_view v.source.now v.expr.now
