-- How a `Boxed` holds its value: as that value. Trees hold trees through it.
use mathlib.Core.Path.{◌≡◌, refl}
use mathlib.Core.Former.{Former, this, const, pair, via}
use base.Stored.{gnil}
use base.Fml.{ftrue}
use denote.RattleType.{RattleType}
use denote.Memory.{part_of}
use denote.RawPtr.{Ptr}
use denote.Sharing.{nothing}
use denote.HoleLaws.{Alike}
use denote.HolePlaces.{Recodes, struct_places, laid, one_value}
use denote.Hole.Fix.{over}
use denote.Param.Weighed.{Weighed}
use denote.Model.Placed.{view_places}
use Rattle.std.specs.declared.boxed.Box.{Box}
use Rattle.std.specs.contracts.boxed.Box as box
use Rattle.std.specs.declared.alloc.Global.{Global}
use Rattle.std.specs.contracts.alloc.Global as heap
use Rattle.std.specs.contracts.impls.GlobalAllocator.TheImpl.{ghosts}
use Rattle.meson_syntax.specs.declared.boxed.Boxed.TheInside.{Inside}
use Rattle.meson_syntax.specs.declared.boxed.Boxed.TheView.{view, invariant}
use Rattle.meson_syntax.specs.contracts.boxed.Boxed as contracts
use Rattle.meson_syntax.specs.contracts.boxed.Boxed.TheInside as inside

abbrev pub the_former : Former {0} → Former {0}
the_former former = former

abbrev pub the_weighed : {former : Former {0}} → Weighed former → Weighed (the_former former)
the_weighed weighed = weighed

-- a `Box` of the heap, by its address and the value there
abbrev box_at : {X : Type 0} → Ptr × Global → X → Box X Global
box_at place value = record { ptr = place.0; alloc = place.1; value = value }

abbrev place_of : {X : Type 0} → Box X Global → Ptr × Global
place_of old = (old.ptr, old.alloc)

-- the one field is such a box
abbrev the_fields : Former {0}
the_fields = via (pair this (const (Ptr × Global))) Inside (λ X boxed. (boxed.inner.value, place_of boxed.inner))
    (λ X parts. record { inner = box_at parts.1 parts.0 })
    (λ X boxed. refl) (λ X parts. refl)

abbrev box_row : RattleType → RattleType
box_row T = box.the_row T heap.the_row ghosts

module _ (R S : RattleType) (along : R.Denot → S.Denot) where
  abbrev mapped : Box R.Denot Global → Box S.Denot Global
  mapped old = box_at (place_of old) (along old.value)

  -- the row of one value, on the way from S to R
  module _ (alike : Alike R S along) (value : R.Denot) where
    abbrev between : one_value R S.mir (S.own_val (along value)) (S.shr_at (along value)) gnil ≡ one_value R R.mir (R.own_val value) (R.shr_at value) gnil
    between = λ i. one_value R (alike.mir_same i) (alike.own_same value i) (alike.shr_same value i) gnil

  boxes_alike : Alike R S along → Alike (box_row R) (box_row S) mapped
  unfolding part_of
  boxes_alike alike = record {
    mir_same = λ i. (box_row (one_value R (alike.mir_same i) (λ _. ftrue) (λ _ _. nothing) gnil)).mir;
    own_same = λ old i. (box_row (between alike old.value i)).own_val (box_at (place_of old) tt);
    shr_same = λ old i. (box_row (between alike old.value i)).shr_at (box_at (place_of old) tt);
  }

  pub the_places : Alike R S along → Alike (contracts.the_row R) (contracts.the_row S) ((the_former this).map R.Denot S.Denot along)
  the_places alike = view_places the_fields this view (λ X Y f boxed. refl) (λ X boxed. refl) R.Denot S.Denot along (contracts.the_row R).coded
      (contracts.the_row S).coded
      (invariant R.Denot) (invariant S.Denot) (λ boxed p q. refl) (λ boxed p q. refl) (λ boxed same. tt) (λ boxed same. tt)
      (over (inside.the_row R)) (over (inside.the_row S))
      (struct_places (inside.the_type R) (inside.the_type S) (mapped, tt) _ (λ boxed. refl) refl (laid _ _ _ (boxes_alike alike), tt))

  pub the_codes_placed : Recodes R S along → Recodes (contracts.the_row R) (contracts.the_row S) ((the_former this).map R.Denot S.Denot along)
  the_codes_placed recodes value = recodes value
