-- Events as data that a proof can tell apart.
use Rattle.std.specs.Prelude.{◌≡◌, ℕ, ◌⊎◌, refl}
use Rattle.std.specs.Coded.{Coded, code_by, coded×, coded⊎, coded_ℕ}
use base.Stored.{coded_unit}
use Rattle.std.proofs.Common.{inl, inr}
use Rattle.tase_points.specs.Sample.{Sample}
use Rattle.sbo_device.specs.Moves.{Tag}
use Rattle.tase_views.specs.declared.call.CallKind.{CallKind}
use Rattle.tase_views.specs.declared.event.EventKind.{EventKind}
use Rattle.tase_views.specs.declared.event.EventKind.TheVariants.{Open, Request, Take, Close}
use Rattle.tase_views.specs.declared.event.EventKind.TheVariants.{Update, Table, Tick, Ask}
use Rattle.tase_views.specs.declared.event.EventKind.TheVariants.{TakeOrders, Stop}
use Rattle.tase_views.specs.declared.event.EventKind.TheVariants as events
use Rattle.tase_views.specs.Codes.{sample_code, tag_code}
use Rattle.tase_views.specs.CallCode.{call_code}

abbrev pub EventParts : Type 0
EventParts =
    ℕ ⊎ (CallKind ⊎ (Unit {0} ⊎ (Unit {0} ⊎ ((ℕ × Sample) ⊎ ((ℕ × ℕ)
    ⊎ (ℕ ⊎ ((ℕ × ℕ) ⊎ (Unit {0} ⊎ ((ℕ × Tag) ⊎ Unit {0})))))))))

abbrev pub event_parts : EventKind → EventParts
event_parts (Open peer) = inl peer
event_parts (Request call) = inr (inl call)
event_parts Take = inr (inr (inl tt))
event_parts Close = inr (inr (inr (inl tt)))
event_parts (Update point value) = inr (inr (inr (inr (inl (point, value)))))
event_parts (Table peer variant) = inr (inr (inr (inr (inr (inl (peer, variant))))))
event_parts (Tick now) = inr (inr (inr (inr (inr (inr (inl now))))))
event_parts (Ask peer slot) = inr (inr (inr (inr (inr (inr (inr (inl (peer, slot))))))))
event_parts Stop = inr (inr (inr (inr (inr (inr (inr (inr (inl tt))))))))
event_parts (events.Tag device tag) =
    inr (inr (inr (inr (inr (inr (inr (inr (inr (inl (device, tag))))))))))
event_parts TakeOrders = inr (inr (inr (inr (inr (inr (inr (inr (inr (inr tt)))))))))

abbrev pub event_from : EventParts → EventKind
event_from (inl peer) = Open peer
event_from (inr (inl call)) = Request call
event_from (inr (inr (inl u))) = Take
event_from (inr (inr (inr (inl u)))) = Close
event_from (inr (inr (inr (inr (inl p))))) = Update p.0 p.1
event_from (inr (inr (inr (inr (inr (inl p)))))) = Table p.0 p.1
event_from (inr (inr (inr (inr (inr (inr (inl now))))))) = Tick now
event_from (inr (inr (inr (inr (inr (inr (inr (inl p)))))))) = Ask p.0 p.1
event_from (inr (inr (inr (inr (inr (inr (inr (inr (inl u))))))))) = Stop
event_from (inr (inr (inr (inr (inr (inr (inr (inr (inr (inl p)))))))))) = events.Tag p.0 p.1
event_from (inr (inr (inr (inr (inr (inr (inr (inr (inr (inr u)))))))))) = TakeOrders

pub event_from-parts : (e : EventKind) → event_from (event_parts e) ≡ e
event_from-parts (Open peer) = refl
event_from-parts (Request call) = refl
event_from-parts Take = refl
event_from-parts Close = refl
event_from-parts (Update point value) = refl
event_from-parts (Table peer variant) = refl
event_from-parts (Tick now) = refl
event_from-parts (Ask peer slot) = refl
event_from-parts Stop = refl
event_from-parts (events.Tag device tag) = refl
event_from-parts TakeOrders = refl

abbrev pub event_code : Coded EventKind
event_code =
    code_by EventParts
    (coded⊎ coded_ℕ (coded⊎ call_code (coded⊎ coded_unit (coded⊎ coded_unit
    (coded⊎ (coded× coded_ℕ sample_code)
    (coded⊎ (coded× coded_ℕ coded_ℕ)
    (coded⊎ coded_ℕ
    (coded⊎ (coded× coded_ℕ coded_ℕ)
    (coded⊎ coded_unit (coded⊎ (coded× coded_ℕ tag_code) coded_unit))))))))))
    event_parts event_from event_from-parts
