-- What right fields say of the kind and of the size, and right fields with another size (7).
-- Assumes nothing.
use mathlib.Core.Path.{◌≡◌}
use mathlib.Core.Bool.{Bool, true, ◌&&◌}
use mathlib.Core.List.{List}
use Prim.Native.Nat.{ℕ}
use Rattle.questions.proofs.Bools.{and-fst, and-snd, and_both}
use Rattle.product.specs.Fields.{id_right, group_right, market_right, kind_right, size_right, tick_right, currency_right, fields_right}

module _ (id group market : List ℕ) (kind size tick : ℕ) (currency : List ℕ) where
  -- the fields up to the kind
  abbrev to-kind : Bool
  to-kind = id_right id && group_right group kind && market_right market && kind_right kind

  module _ (right : fields_right id group market kind size tick currency ≡ true) where
    to_tick : (to-kind && size_right size && tick_right tick) ≡ true
    unfolding fields_right
    to_tick = and-fst (to-kind && size_right size && tick_right tick) (currency_right currency) right

    to-size : (to-kind && size_right size) ≡ true
    to-size = and-fst (to-kind && size_right size) (tick_right tick) to_tick

    -- where the product fields are right, the kind is right
    pub kind-of-fields : kind_right kind ≡ true
    kind-of-fields =
        and-snd (id_right id && group_right group kind && market_right market) (kind_right kind) (and-fst to-kind (size_right size) to-size)

    -- where the product fields are right, the size is right
    pub size-of-fields : size_right size ≡ true
    size-of-fields = and-snd to-kind (size_right size) to-size

    -- where the product fields are right, they are right with any other right size
    pub fields-with-size : (other : ℕ) → size_right other ≡ true → fields_right id group market kind other tick currency ≡ true
    unfolding fields_right
    fields-with-size other s =
        and_both {a = to-kind && size_right other && tick_right tick}
        (and_both {a = to-kind && size_right other} (and_both {a = to-kind} (and-fst to-kind (size_right size) to-size) s)
        (and-snd (to-kind && size_right size) (tick_right tick) to_tick))
        (and-snd (to-kind && size_right size && tick_right tick) (currency_right currency) right)
