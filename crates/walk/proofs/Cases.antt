-- The ten starred cases of the scope hold of the definitions: each computes to what its row expects.
use mathlib.Core.Path.{◌≡◌, refl}
use mathlib.Core.Bool.{Bool, true, false, cond}
use lib.IntN.{ℤ}
use Rattle.walk.specs.Cases.{bytes, entry, Right, rows, EveryRow}
use Rattle.walk.specs.Walk.{
  matches_kind,
  matches,
  first_match,
  is_flag,
  is_flag_below,
  is_partial,
  allowed,
  decided_by,
  is_denied_mode,
  is_denied,
  without_match,
  by_match,
  query_desc,
}
use Rattle.table.specs.Entries.{is_granted, same_path, strictly_extends, compare_alike, granted_order, compare}
use Rattle.table.specs.Placing.{is_after, search_from, search, place_by, place, placed_at}
use Rattle.table.specs.Tables.{has, set_bit, clear_bit, marked, any}
use Rattle.table.specs.Acts.{inserted_by, inserted, kept_unless, without, dropped_by, apply_act, apply_acts}
use Rattle.paths.specs.Components.{same, grown, parted, pieces, without_empty, components, slashed, spell}
use Rattle.paths.specs.Resolving.{is_absolute, join, entered, enter_all, normalize, resolve}
use Rattle.paths.specs.Relations.{shared, common, depth, is_prefix, number_order, or_else, in_turn, path_order, less}

-- whatever the two kinds are
either : (x : ℤ) (a b : Bool) → cond a (cond b x x) (cond b x x) ≡ x
either x true true = refl
either x true false = refl
either x false true = refl
either x false false = refl

pub starred : EveryRow rows
unfolding Right bytes entry
    matches_kind matches first_match is_flag is_flag_below is_partial allowed decided_by is_denied_mode is_denied without_match by_match query_desc
    same_path strictly_extends compare_alike granted_order compare
    is_after search_from search place_by place placed_at
    has set_bit clear_bit marked any
    inserted_by inserted kept_unless without dropped_by apply_act apply_acts
    same grown parted pieces without_empty components slashed spell
    is_absolute join entered enter_all normalize resolve
    shared common depth is_prefix number_order or_else in_turn path_order
starred = (
  (refl, (refl, (λ q. refl, tt))),
  (
    (refl, (λ j k. either less (is_granted j) (is_granted k), tt)),
    (
      (refl, (refl, tt)),
      (
        (refl, (refl, tt)),
        (
          (refl, tt),
          (
            (refl, (refl, tt)),
            (
              (refl, (refl, (refl, tt))),
              (
                (refl, (refl, tt)),
                (
                  (refl, (refl, tt)),
                  (
                    (refl, (refl, tt)),
                    tt,
                  ),
                ),
              ),
            ),
          ),
        ),
      ),
    ),
  ),
)
