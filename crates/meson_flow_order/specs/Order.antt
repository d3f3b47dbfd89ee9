-- The order of what is known of a variable. What is above another says no more than that, and overlooks nothing that it says.
use Rattle.std.specs.Prelude.{◌≡◌, ◌≤◌, ⊤, Bool, true, false, not, ◌&&◌, List, [], ◌∷◌, length, Some, None}
use Rattle.meson_lex.specs.declared.kinds.Span.{Span}
use Rattle.meson_following.specs.Flows.{Arrival, Flow, around, flow_loop}
use Rattle.meson_following.specs.Makers.{Known, Made, Maker, assigned, is_among, is_full, is_sure_among, joined, made_unknown, max_makers, touched}

-- ---- values as they are kept

-- no maker stands twice
abbrev pub stand_once : List (Maker Span) → Bool
stand_once [] = true
stand_once (m ∷ ms) = not (is_among ms m) && stand_once ms

pub record IsGood (m : Made Span) : Type 0 where
  pub once : stand_once m.makers ≡ true
  pub few : length m.makers ≤ max_makers

abbrev pub IsGoodKnown : Known Span → Type 0
IsGoodKnown None = ⊤
IsGoodKnown (Some m) = IsGood m

-- ---- the order

-- As many makers are kept as can be, and it is made by something that is not known, too. Then makers may have been left out, and one that is added after that is
-- left out even where it has a part for sure. So such a value says nothing, and it is above all.
abbrev pub says_nothing : Made Span → Bool
says_nothing m = is_full m && m.unknown

-- Makers are distinguished by the places of their values. Each is an assignment that stands in the project (`MakersStand`), and those at one place have one value and
-- are added alike (`AddAlike`).
pub record IsWithin (m n : Made Span) : Type 0 where
  pub makers : (x : Maker Span) → is_among m.makers x ≡ true → is_among n.makers x ≡ true
  pub sure : (x : Maker Span) → is_sure_among n.makers x ≡ true → is_sure_among m.makers x ≡ true
  pub unknown : m.unknown ≡ true → n.unknown ≡ true

-- A variable that is not set is below all: no evaluation goes on with a read of it.
abbrev pub IsBelow : Known Span → Known Span → Type 0
IsBelow None l = ⊤
IsBelow (Some m) None = ⊥
IsBelow (Some m) (Some n) = says_nothing n ≡ false → IsWithin m n

-- ---- what a turn of a loop begins with

-- The one is below the other one joined with some more, and is set where the other one is.
pub record IsBelowWith (more k l : Known Span) : Type 0 where
  pub below : IsBelow k (joined l more)
  pub unset : k ≡ None → l ≡ None
  pub lower : IsGoodKnown k
  pub upper : IsGoodKnown l

-- The one is below the other one, and is set where the other one is.
pub record IsBelowAsSet (k l : Known Span) : Type 0 where
  pub below : IsBelow k l
  pub unset : k ≡ None → l ≡ None
  pub lower : IsGoodKnown k
  pub upper : IsGoodKnown l

-- What every step of an evaluation keeps, of what is known before two of them, where the makers that they add are such ones.
pub record IsKeptBySteps (P : Maker Span → Type 0) (R : Known Span → Known Span → Type 0) : Type 0 where
  pub none : R None None
  pub unknown : R (Some made_unknown) (Some made_unknown)
  pub joins : (k l f g : Known Span) → R k f → R l g → R (joined k l) (joined f g)
  pub touches : (k f : Known Span) → R k f → R (touched k) (touched f)
  pub assigns : (m : Maker Span) (k f : Known Span) → P m → R k f → R (assigned m k) (assigned m f)

-- ---- flows

-- the same expressions in the same order, with what is known related so
abbrev pub AreMet : (Known Span → Known Span → Type 0) → List (Arrival Span) → List (Arrival Span) → Type 0
AreMet R [] [] = ⊤
AreMet R [] (b ∷ later) = ⊥
AreMet R (a ∷ more) [] = ⊥
AreMet R (a ∷ more) (b ∷ later) = (a.at_expression ≡ b.at_expression) × R a.known b.known × AreMet R more later

-- What is known at each point of the one is related so to what is known there in the other one. Where there is no place at which the file is left, nothing is
-- known where it is left.
pub record AreFlows (R : Known Span → Known Span → Type 0) (f g : Flow Span) : Type 0 where
  pub now : R f.now g.now
  pub turned : R f.turned g.turned
  pub ended : R f.ended g.ended
  pub leaves : f.leaves ≡ g.leaves
  pub stays : f.leaves ≡ false → f.ended ≡ None
  pub arrivals : AreMet R f.arrivals g.arrivals

-- What a loop has around holds before its first turn and after each: a turn that begins with it ends below it, also where it ends early. Where a turn leaves the
-- file, what is known where the loop leaves it holds.
pub record HoldsInTurns (turn : Known Span → Flow Span) (k : Known Span) : Type 0 where
  pub first : let before = around k (turn k) in IsBelow k before
  pub now : let before = around k (turn k) in IsBelow (turn before).now before
  pub turned : let before = around k (turn k) in IsBelow (turn before).turned before
  pub ended : let before = around k (turn k) in IsBelow (turn before).ended (flow_loop turn k).ended
  pub leaves : let before = around k (turn k) in (turn before).leaves ≡ (turn k).leaves
