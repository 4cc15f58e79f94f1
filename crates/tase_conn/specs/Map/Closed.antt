-- Associations that were closed.
use Rattle.std.specs.Prelude.{Bool}
use Rattle.std.specs.List.{list_any}
use Rattle.sbo_device.specs.declared.key.Key.{Key}
use Rattle.tase_views.specs.History.{Past, entries_of}
use Rattle.tase_views.specs.Outcomes.{is_close}

-- one of the entries of an association is its close
abbrev pub is_closed : Key → Past → Bool
is_closed key past = list_any (λ entry. is_close entry.event) (entries_of key past)
