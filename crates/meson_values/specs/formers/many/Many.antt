-- How a `Many` holds its elements: as the list of them. Trees hold trees through it.
use mathlib.Core.Path.{◌≡◌, refl, sym}
use mathlib.Core.List.{List, []}
use mathlib.Core.Former.{Former, this, list, via, children}
use base.Stored.{code_map}
use denote.RattleType.{RattleType}
use denote.HoleLaws.{Alike}
use denote.HolePlaces.{Recodes, struct_places, laid}
use denote.Hole.Carrier.{listed, list-listed}
use denote.Hole.Fix.{over}
use denote.Param.Weighed.{Weighed, w_list}
use denote.Model.Placed.{view_places}
use Rattle.std.specs.formers.vec.Vec as vec
use Rattle.std.specs.declared.alloc.Global.{Global}
use Rattle.std.specs.contracts.alloc.Global as heap
use Rattle.std.specs.contracts.impls.GlobalAllocator.TheImpl.{ghosts}
use Rattle.meson_values.specs.declared.many.Many.TheInside.{Inside}
use Rattle.meson_values.specs.declared.many.Many.TheView.{view, invariant}
use Rattle.meson_values.specs.contracts.many.Many as contracts
use Rattle.meson_values.specs.contracts.many.Many.TheInside as inside

abbrev pub the_former : Former {0} → Former {0}
the_former former = list former

abbrev pub the_weighed : {former : Former {0}} → Weighed former → Weighed (the_former former)
the_weighed weighed = w_list weighed

pub the_empty : List ⊥
the_empty = []

abbrev pub the_items : (X : Type 0) → List X → List X
the_items X elements = elements

pub the_items_listed : (X : Type 0) (elements : List X) → listed _ (children (the_former this) X elements) ≡ the_items X elements
the_items_listed X elements = list-listed X elements

-- the one field is a vector
abbrev the_fields : Former {0}
the_fields = via (vec.the_former this Global) Inside (λ X many. many.vec) (λ X v. record { vec = v }) (λ X many. refl) (λ X v. refl)

module _ (R S : RattleType) (along : R.Denot → S.Denot) where
  pub the_places : Alike R S along → Alike (contracts.the_row R) (contracts.the_row S) ((the_former this).map R.Denot S.Denot along)
  the_places alike = view_places the_fields (list this) view (λ X Y f many. refl) (λ X many. refl) R.Denot S.Denot along (contracts.the_row R).coded
      (contracts.the_row S).coded
      (invariant R.Denot) (invariant S.Denot) (λ many p q. refl) (λ many p q. refl) (λ many same. tt) (λ many same. tt)
      (over (inside.the_row R)) (over (inside.the_row S))
      (struct_places (inside.the_type R) (inside.the_type S) (vec.mapped along, tt) _ (λ many. refl) refl
      (laid _ _ _ (vec.the_places heap.the_row ghosts R S along alike), tt))

  pub the_codes_placed : Recodes R S along → Recodes (contracts.the_row R) (contracts.the_row S) ((the_former this).map R.Denot S.Denot along)
  the_codes_placed recodes elements = sym (code_map R.coded.code S.coded.code along (λ x. sym (recodes x)) elements)
