-- A book after one more message.
use Rattle.std.proofs.Common.{◌≡◌, ℕ, ◌+◌, ◌*◌, ◌/◌, ◌%◌, ◌<◌, ◌≤◌, Bool, true, false, cond, List, [], ◌∷◌, ◌++◌, length, get_or, set, refl, sym, ap, ◌∙◌, subst, arith, inl, inr}
use Rattle.std.specs.Prelude.{◌==◌, ◌&&◌, not, nat_eq, map, MatchOption, Option, Some, None}
use Rattle.std.specs.List.{IsDistinct}
use Rattle.std.specs.Map.{keys_of}
use Rattle.std.proofs.lemmas.Bool.{cases_eq, eq-eqb, ne_eqb}
use Rattle.std.proofs.lemmas.Option.{none-some, same_Some}
use Rattle.std.proofs.lemmas.List.{get_or-set_same, get_or-set_other, get_or-map, length-map}
use Rattle.std.proofs.lemmas.List.Sums.{fold_push}
use Rattle.feed_types.specs.Symbols.{key_of}
use Rattle.itch_messages.specs.declared.event.HaltKind.{HaltKind}
use Rattle.itch_messages.specs.declared.event.HaltKind.TheVariants.{Trading, Operational}
use Rattle.itch_messages.specs.declared.event.OrderEvent.{OrderEvent}
use Rattle.itch_messages.specs.declared.event.OrderEvent.TheVariants as event
use Rattle.itch_book.specs.declared.level.Level.{Level}
use Rattle.itch_book.specs.declared.oddity.Oddities.{Oddities}
use Rattle.itch_book.specs.declared.oddity.Oddity.{Oddity}
use Rattle.itch_book.specs.declared.order.Order.{Order}
use Rattle.itch_book.specs.declared.row.SymbolRow.{SymbolRow}
use Rattle.itch_book.specs.Bests.{IsBestOf, depth, order_shares}
use Rattle.itch_book.specs.Books.{FitsEvents, FitsRow, OrderBookState, SessionOrders, ShowsBest, halt_after, halt_of, is_place, is_same_kind, lot_after, lot_of, session_orders_after, session_orders_of}
use Rattle.itch_book.specs.Inside.{Holds, IsHaltShown, IsLotShown, IsSideShown, unknown_row}
use Rattle.itch_book.specs.Oddities.{no_oddities, oddities_after, oddity_of}
use Rattle.itch_book.specs.Orders.{orders_after, place_among}
use Rattle.itch_book.specs.Rows.{showing, shown_price, shown_size, with_halt, with_lot}
use Rattle.itch_book.proofs.Kept.{best_same}

abbrev pub book_of : List ℕ → List (ℕ × Order) → List SymbolRow → Oddities → OrderBookState
book_of keys table rows oddities =
    record { keys = keys; table = table; rows = rows; oddities = oddities }

-- ---- one more message

pub session_push : (keys : List ℕ) (events : List OrderEvent) (e : OrderEvent)
    → session_orders_of keys (events ++ e ∷ []) ≡ session_orders_after keys
    (session_orders_of keys events) e
session_push keys events e =
    fold_push (λ (before : SessionOrders)
    (event : OrderEvent). session_orders_after keys before event)
    (record { live = []; oddities = no_oddities }) events e

lot_push : (keys : List ℕ) (place : ℕ) (events : List OrderEvent) (e : OrderEvent)
    → lot_of keys place (events ++ e ∷ []) ≡ lot_after keys place (lot_of keys place events) e
lot_push keys place events e =
    fold_push (λ (lot : ℕ) (event : OrderEvent). lot_after keys place lot event) 100 events e

halt_push : (keys : List ℕ) (place : ℕ) (kind : HaltKind) (events : List OrderEvent)
    (e : OrderEvent) → halt_of keys place kind (events ++ e ∷ [])
    ≡ halt_after keys place kind (halt_of keys place kind events) e
halt_push keys place kind events e =
    fold_push (λ (halted : Bool) (event : OrderEvent). halt_after keys place kind halted event)
    false events e

-- a row after one more message
record RowAfter (keys : List ℕ) (events : List OrderEvent) (e : OrderEvent) (place : ℕ)
    (row : SymbolRow) : Type 0 where
  symbol : key_of row.quote.symbol ≡ get_or keys place 0
  bid : ShowsBest (orders_after keys (session_orders_of keys events).live e) (place * 2) row.lot
      row.quote.bid_price row.quote.bid_size
  offer : ShowsBest (orders_after keys (session_orders_of keys events).live e) (place * 2 + 1)
      row.lot row.quote.offer_price row.quote.offer_size
  lot : row.lot ≡ lot_after keys place (lot_of keys place events) e
  trading : row.trading_halt ≡ halt_after keys place Trading (halt_of keys place Trading events) e
  operational : row.operational_halt
      ≡ halt_after keys place Operational (halt_of keys place Operational events) e
  automated : (row.quote.bid_auto ≡ true) × (row.quote.offer_auto ≡ true)

fits_row : (keys : List ℕ) (events : List OrderEvent) (e : OrderEvent) (place : ℕ)
    (row : SymbolRow) → RowAfter keys events e place row
    → FitsRow keys (events ++ e ∷ []) place row
fits_row keys events e place row h = record {
  symbol = h.symbol;
  bid = subst (λ (s : SessionOrders). ShowsBest s.live (place * 2) row.lot
      row.quote.bid_price row.quote.bid_size) (sym (session_push keys events e)) h.bid;
  offer = subst (λ (s : SessionOrders). ShowsBest s.live (place * 2 + 1) row.lot
      row.quote.offer_price row.quote.offer_size) (sym (session_push keys events e)) h.offer;
  lot = h.lot ∙ sym (lot_push keys place events e);
  trading = h.trading ∙ sym (halt_push keys place Trading events e);
  operational = h.operational ∙ sym (halt_push keys place Operational events e);
  automated = h.automated;
}

-- a message that says nothing of lots and halts
pub record LeavesSymbols (keys : List ℕ) (e : OrderEvent) : Type 0 where
  pub lot : (place lot : ℕ) → lot_after keys place lot e ≡ lot
  pub halt : (place : ℕ) (kind : HaltKind) (halted : Bool)
      → halt_after keys place kind halted e ≡ halted

shows_same : (before after : List (ℕ × Order)) (side lot price size : ℕ)
    → ((r : ℕ) → depth before side r ≡ depth after side r)
    → ShowsBest before side lot price size → ShowsBest after side lot price size
shows_same before after side lot price size same h = record {
  best = h.best;
  is_best = best_same lot (depth before side) (depth after side) h.best same h.is_best;
  price_is = h.price_is;
  size_is = h.size_is;
}

-- a row of whose orders the message says nothing
row_stays : (keys : List ℕ) (events : List OrderEvent) (e : OrderEvent) (place : ℕ)
    (row : SymbolRow) → LeavesSymbols keys e → FitsRow keys events place row
    → ((r : ℕ) → depth (session_orders_of keys events).live (place * 2) r
    ≡ depth (orders_after keys (session_orders_of keys events).live e) (place * 2) r)
    → ((r : ℕ) → depth (session_orders_of keys events).live (place * 2 + 1) r
    ≡ depth (orders_after keys (session_orders_of keys events).live e) (place * 2 + 1) r)
    → RowAfter keys events e place row
row_stays keys events e place row leaves h bids offers =
    let before = (session_orders_of keys events).live in
    let after = orders_after keys (session_orders_of keys events).live e in
    record {
      symbol = h.symbol;
      bid = shows_same before after (place * 2) row.lot row.quote.bid_price row.quote.bid_size bids
          h.bid;
      offer = shows_same before after (place * 2 + 1) row.lot row.quote.offer_price
          row.quote.offer_size offers h.offer;
      lot = h.lot ∙ sym (leaves.lot place (lot_of keys place events));
      trading = h.trading ∙ sym (leaves.halt place Trading (halt_of keys place Trading events));
      operational = h.operational
          ∙ sym (leaves.halt place Operational (halt_of keys place Operational events));
      automated = h.automated;
    }

-- ---- a best is shown

with_bid : ℕ → Option Level → SymbolRow → SymbolRow
with_bid side best row = record row {
  quote = record row.quote { bid_price = shown_price side best; bid_size = shown_size best };
}

with_offer : ℕ → Option Level → SymbolRow → SymbolRow
with_offer side best row = record row {
  quote = record row.quote { offer_price = shown_price side best; offer_size = shown_size best };
}

showing_bid : (place : ℕ) (best : Option Level) (row : SymbolRow)
    → showing (place * 2) best row ≡ with_bid (place * 2) best row
unfolding with_bid with_offer
showing_bid place best row =
    ap (λ b. cond b (with_bid (place * 2) best row) (with_offer (place * 2) best row))
    (eq-eqb ((place * 2) % 2) 0 (omega arith))

showing_offer : (place : ℕ) (best : Option Level) (row : SymbolRow)
    → showing (place * 2 + 1) best row ≡ with_offer (place * 2 + 1) best row
unfolding with_bid with_offer
showing_offer place best row =
    ap (λ b. cond b (with_bid (place * 2 + 1) best row) (with_offer (place * 2 + 1) best row))
    (ne_eqb ((place * 2 + 1) % 2) 0 (λ e. omega (arith, e)))

now_best : (orders : List (ℕ × Order)) (side lot : ℕ) (best : Option Level)
    → IsBestOf lot (depth orders side) best
    → ShowsBest orders side lot (shown_price side best) (shown_size best)
now_best orders side lot best is =
    record { best = best; is_best = is; price_is = refl; size_is = refl }

row_bid : (keys : List ℕ) (events : List OrderEvent) (e : OrderEvent) (place : ℕ)
    (row : SymbolRow) (best : Option Level) → LeavesSymbols keys e
    → FitsRow keys events place row
    → IsBestOf row.lot (depth (orders_after keys (session_orders_of keys events).live e)
    (place * 2)) best
    → ((r : ℕ) → depth (session_orders_of keys events).live (place * 2 + 1) r
    ≡ depth (orders_after keys (session_orders_of keys events).live e) (place * 2 + 1) r)
    → RowAfter keys events e place (showing (place * 2) best row)
unfolding with_bid
row_bid keys events e place row best leaves h is offers =
    let before = (session_orders_of keys events).live in
    let after = orders_after keys (session_orders_of keys events).live e in
    subst (λ r. RowAfter keys events e place r) (sym (showing_bid place best row)) (record {
      symbol = h.symbol;
      bid = now_best after (place * 2) row.lot best is;
      offer = shows_same before after (place * 2 + 1) row.lot row.quote.offer_price
          row.quote.offer_size offers h.offer;
      lot = h.lot ∙ sym (leaves.lot place (lot_of keys place events));
      trading = h.trading ∙ sym (leaves.halt place Trading (halt_of keys place Trading events));
      operational = h.operational
          ∙ sym (leaves.halt place Operational (halt_of keys place Operational events));
      automated = h.automated;
    })

row_offer : (keys : List ℕ) (events : List OrderEvent) (e : OrderEvent) (place : ℕ)
    (row : SymbolRow) (best : Option Level) → LeavesSymbols keys e
    → FitsRow keys events place row
    → IsBestOf row.lot (depth (orders_after keys (session_orders_of keys events).live e)
    (place * 2 + 1))
    best
    → ((r : ℕ) → depth (session_orders_of keys events).live (place * 2) r
    ≡ depth (orders_after keys (session_orders_of keys events).live e) (place * 2) r)
    → RowAfter keys events e place (showing (place * 2 + 1) best row)
unfolding with_offer
row_offer keys events e place row best leaves h is bids =
    let before = (session_orders_of keys events).live in
    let after = orders_after keys (session_orders_of keys events).live e in
    subst (λ r. RowAfter keys events e place r) (sym (showing_offer place best row)) (record {
      symbol = h.symbol;
      bid = shows_same before after (place * 2) row.lot row.quote.bid_price row.quote.bid_size bids
          h.bid;
      offer = now_best after (place * 2 + 1) row.lot best is;
      lot = h.lot ∙ sym (leaves.lot place (lot_of keys place events));
      trading = h.trading ∙ sym (leaves.halt place Trading (halt_of keys place Trading events));
      operational = h.operational
          ∙ sym (leaves.halt place Operational (halt_of keys place Operational events));
      automated = h.automated;
    })

row_shows : (keys : List ℕ) (events : List OrderEvent) (e : OrderEvent) (place side : ℕ)
    (row : SymbolRow) (best : Option Level) → LeavesSymbols keys e
    → FitsRow keys events place row → place ≡ side / 2
    → IsBestOf row.lot (depth (orders_after keys (session_orders_of keys events).live e) side) best
    → ((s r : ℕ) → (side ≡ s → ⊥) → depth (session_orders_of keys events).live s r
    ≡ depth (orders_after keys (session_orders_of keys events).live e) s r)
    → RowAfter keys events e place (showing side best row)
row_shows keys events e place side row best leaves h at is others =
    let after = orders_after keys (session_orders_of keys events).live e in
    elim (cases_eq (side % 2) 0) [
      | inl even ↦ (
          let same : side ≡ place * 2 = omega (arith, at, even) in
          subst (λ s. RowAfter keys events e place (showing s best row)) (sym same)
          (row_bid keys events e place row best leaves h
          (subst (λ s. IsBestOf row.lot (depth after s) best) same is)
          (λ r. others (place * 2 + 1) r (λ q. omega (arith, same, q))))
          )
      | inr odd ↦ (
          let same : side ≡ place * 2 + 1 = omega (arith, at, odd) in
          subst (λ s. RowAfter keys events e place (showing s best row)) (sym same)
          (row_offer keys events e place row best leaves h
          (subst (λ s. IsBestOf row.lot (depth after s) best) same is)
          (λ r. others (place * 2) r (λ q. omega (arith, same, q))))
          )
    ]

-- ---- a message of an order

-- how many shares there are on a side that wasn't touched
depth_stays : (table new live all : List (ℕ × Order)) (touched : Option ℕ) (side r : ℕ)
    → Holds table live → Holds new all
    → ((side r : ℕ) → (touched ≡ Some side → ⊥) → depth new side r ≡ depth table side r)
    → (touched ≡ Some side → ⊥) → depth live side r ≡ depth all side r
depth_stays table new live all touched side r h k others off =
    sym (h.sums (order_shares side r)) ∙ sym (others side r off) ∙ k.sums (order_shares side r)

rows_touched : (keys : List ℕ) (events : List OrderEvent) (e : OrderEvent)
    (table new : List (ℕ × Order)) (rows after : List SymbolRow) (touched : Option ℕ)
    (place : ℕ) (d : SymbolRow)
    → FitsRow keys events place (get_or rows place d) → LeavesSymbols keys e
    → Holds table (session_orders_of keys events).live
    → Holds new (orders_after keys (session_orders_of keys events).live e)
    → ((side r : ℕ) → (touched ≡ Some side → ⊥) → depth new side r ≡ depth table side r)
    → MatchOption touched (after ≡ rows) (λ side. IsSideShown new side rows after)
    → place < length rows
    → RowAfter keys events e place (get_or after place d)
rows_touched keys events e table new rows after None place d fits leaves h k others shown inside =
    let live = (session_orders_of keys events).live in
    let all = orders_after keys (session_orders_of keys events).live e in
    subst (λ (rs : List SymbolRow). RowAfter keys events e place (get_or rs place d)) (sym shown)
    (row_stays keys events e place (get_or rows place d) leaves fits
    (λ r. depth_stays table new live all None (place * 2) r h k others (none-some (place * 2)))
    (λ r. depth_stays table new live all None (place * 2 + 1) r h k others
    (none-some (place * 2 + 1))))
rows_touched keys events e table new rows after
    (Some side) place d fits leaves h k others shown inside =
    let live = (session_orders_of keys events).live in
    let all = orders_after keys (session_orders_of keys events).live e in
    let row = get_or rows place d in
    let off : (s : ℕ) → (side ≡ s → ⊥) → Some side ≡ Some s → ⊥ =
    λ s apart q. apart (same_Some side s q) in
    subst (λ (rs : List SymbolRow). RowAfter keys events e place (get_or rs place d))
    (sym (shown.rows d))
    (elim (cases_eq place (side / 2)) [
      | inl at ↦ (
          let shows = showing side shown.best (get_or rows (side / 2) d) in
          let here : get_or (set rows (side / 2) shows) place d ≡ showing side shown.best row =
          ap (λ n. get_or (set rows (side / 2) shows) n d) at
          ∙ get_or-set_same rows (side / 2) shows d (omega (arith, inside, at))
          ∙ ap (λ n. showing side shown.best (get_or rows n d)) (sym at) in
          subst (λ r. RowAfter keys events e place r) (sym here)
          (row_shows keys events e place side row shown.best leaves fits at
          (subst (λ n. IsBestOf (get_or rows n d).lot (depth all side) shown.best) (sym at)
          (shown.is_best all d k))
          (λ s r apart. depth_stays table new live all (Some side) s r h k others (off s apart)))
          )
      | inr apart ↦ (
          let shows = showing side shown.best (get_or rows (side / 2) d) in
          subst (λ r. RowAfter keys events e place r)
          (sym (get_or-set_other rows (side / 2) place shows d apart))
          (row_stays keys events e place row leaves fits
          (λ r. depth_stays table new live all (Some side) (place * 2) r h k others
          (off (place * 2) (λ q. apart (omega (arith, q)))))
          (λ r. depth_stays table new live all (Some side) (place * 2 + 1) r h k others
          (off (place * 2 + 1) (λ q. apart (omega (arith, q))))))
          )
    ])

pub fits_orders : (keys : List ℕ) (events : List OrderEvent) (e : OrderEvent)
    (table new : List (ℕ × Order)) (rows after : List SymbolRow) (before now : Oddities)
    (touched : Option ℕ) → FitsEvents (book_of keys table rows before) events
    → LeavesSymbols keys e
    → Holds new (orders_after keys (session_orders_of keys events).live e)
    → now ≡ oddities_after before (oddity_of keys (session_orders_of keys events).live e)
    → ((side r : ℕ) → (touched ≡ Some side → ⊥) → depth new side r ≡ depth table side r)
    → MatchOption touched (after ≡ rows) (λ side. IsSideShown new side rows after)
    → length rows ≡ length keys
    → FitsEvents (book_of keys new after now) (events ++ e ∷ [])
fits_orders keys events e table new rows after before now touched fits leaves k counted others
    shown len =
    record {
      orders = subst (λ (s : SessionOrders). Holds new s.live) (sym (session_push keys events e)) k;
      oddities = counted
          ∙ ap (λ (o : Oddities). oddities_after o (oddity_of keys
          (session_orders_of keys events).live e))
          fits.oddities
          ∙ ap (λ (s : SessionOrders). s.oddities) (sym (session_push keys events e));
      rows = λ place d inside. fits_row keys events e place (get_or after place d)
          (rows_touched keys events e table new rows after touched place d
          (fits.rows place d inside) leaves fits.orders k others shown (omega
          (arith, inside, len)));
    }

-- the book after it, whose parts are these
pub fits_step : (keys : List ℕ) (events : List OrderEvent) (e : OrderEvent)
    (table new : List (ℕ × Order)) (rows : List SymbolRow) (before : Oddities)
    (touched : Option ℕ) (oddity : Option Oddity) (after : OrderBookState)
    → FitsEvents (book_of keys table rows before) events
    → LeavesSymbols keys e
    → Holds new (orders_after keys (session_orders_of keys events).live e)
    → oddity ≡ oddity_of keys (session_orders_of keys events).live e
    → ((side r : ℕ) → (touched ≡ Some side → ⊥) → depth new side r ≡ depth table side r)
    → MatchOption touched (after.rows ≡ rows) (λ side. IsSideShown new side rows after.rows)
    → after.oddities ≡ oddities_after before oddity → after.table ≡ new → after.keys ≡ keys
    → length rows ≡ length keys → FitsEvents after (events ++ e ∷ [])
fits_step keys events e table new rows before touched oddity after fits leaves k odd others shown
    counted table_is keys_is len =
    subst (λ (ks : List ℕ). FitsEvents (book_of ks after.table after.rows after.oddities)
    (events ++ e ∷ [])) (sym keys_is)
    (subst (λ (t : List (ℕ × Order)). FitsEvents (book_of keys t after.rows after.oddities)
    (events ++ e ∷ [])) (sym table_is)
    (fits_orders keys events e table new rows after.rows before after.oddities touched fits leaves k
    (counted ∙ ap (λ o. oddities_after before o) odd) others shown len))

-- ---- a message of none

fits_rows : (keys : List ℕ) (events : List OrderEvent) (e : OrderEvent)
    (table : List (ℕ × Order)) (rows after : List SymbolRow) (oddities : Oddities)
    → FitsEvents (book_of keys table rows oddities) events
    → session_orders_after keys (session_orders_of keys events) e ≡ session_orders_of keys events
    → ((place : ℕ) (d : SymbolRow) → place < length keys
    → FitsRow keys events place (get_or rows place d)
    → RowAfter keys events e place (get_or after place d))
    → FitsEvents (book_of keys table after oddities) (events ++ e ∷ [])
fits_rows keys events e table rows after oddities fits same each =
    let pushed : session_orders_of keys (events ++ e ∷ []) ≡ session_orders_of keys events =
    session_push keys events e ∙ same in
    record {
      orders = subst (λ (s : SessionOrders). Holds table s.live) (sym pushed) fits.orders;
      oddities = fits.oddities ∙ ap (λ (s : SessionOrders). s.oddities) (sym pushed);
      rows = λ place d inside. fits_row keys events e place (get_or after place d)
          (each place d inside (fits.rows place d inside));
    }

pub fits_still : (keys : List ℕ) (events : List OrderEvent) (e : OrderEvent)
    (table : List (ℕ × Order)) (rows : List SymbolRow) (oddities : Oddities)
    → FitsEvents (book_of keys table rows oddities) events
    → session_orders_after keys (session_orders_of keys events) e ≡ session_orders_of keys events
    → orders_after keys (session_orders_of keys events).live e ≡
    (session_orders_of keys events).live
    → LeavesSymbols keys e
    → FitsEvents (book_of keys table rows oddities) (events ++ e ∷ [])
fits_still keys events e table rows oddities fits same orders leaves =
    fits_rows keys events e table rows rows oddities fits same
    (λ place d inside h. row_stays keys events e place (get_or rows place d) leaves h
    (λ r. ap (λ (os : List (ℕ × Order)). depth os (place * 2) r) (sym orders))
    (λ r. ap (λ (os : List (ℕ × Order)). depth os (place * 2 + 1) r) (sym orders)))

-- ---- a round lot

no_lot : (found : Option ℕ) (place shares lot : ℕ) → is_place found place ≡ false
    → cond (is_place found place && not (shares == 0)) shares lot ≡ lot
no_lot found place shares lot e = ap (λ b. cond (b && not (shares == 0)) shares lot) e

pub leaves_lot_none : (keys : List ℕ) (symbol : List ℕ) (shares locate : ℕ)
    → place_among keys symbol ≡ None → LeavesSymbols keys (event.RoundLot symbol shares locate)
leaves_lot_none keys symbol shares locate none = record {
  lot = λ place lot. no_lot (place_among keys symbol) place shares lot
      (ap (λ o. is_place o place) none);
  halt = λ place kind halted. refl;
}

and_false : (b : Bool) → (b && false) ≡ false
and_false true = refl
and_false false = refl

pub leaves_lot_zero : (keys : List ℕ) (symbol : List ℕ) (shares locate : ℕ) → shares ≡ 0
    → LeavesSymbols keys (event.RoundLot symbol shares locate)
leaves_lot_zero keys symbol shares locate zero = record {
  lot = λ place lot. ap (λ b. cond (is_place (place_among keys symbol) place && not b) shares lot)
      (eq-eqb shares 0 zero)
      ∙ ap (λ b. cond b shares lot) (and_false (is_place (place_among keys symbol) place));
  halt = λ place kind halted. refl;
}

row_lot : (keys : List ℕ) (events : List OrderEvent) (symbol : List ℕ) (lot locate place : ℕ)
    (row : SymbolRow) (bid offer : Option Level) → FitsRow keys events place row
    → place_among keys symbol ≡ Some place → (lot == 0) ≡ false
    → IsBestOf lot (depth (session_orders_of keys events).live (place * 2)) bid
    → IsBestOf lot (depth (session_orders_of keys events).live (place * 2 + 1)) offer
    → RowAfter keys events (event.RoundLot symbol lot locate) place
    (showing (place * 2 + 1) offer (showing (place * 2) bid (with_lot lot row)))
unfolding with_bid with_offer
row_lot keys events symbol lot locate place row bid offer h at some is_bid is_offer =
    let live = (session_orders_of keys events).live in
    let e = event.RoundLot symbol lot locate in
    let both : showing (place * 2 + 1) offer (showing (place * 2) bid (with_lot lot row))
    ≡ with_offer (place * 2 + 1) offer (with_bid (place * 2) bid (with_lot lot row)) =
    ap (λ r. showing (place * 2 + 1) offer r) (showing_bid place bid (with_lot lot row))
    ∙ showing_offer place offer (with_bid (place * 2) bid (with_lot lot row)) in
    let was = lot_of keys place events in
    subst (λ r. RowAfter keys events e place r) (sym both) (record {
      symbol = h.symbol;
      bid = now_best live (place * 2) lot bid is_bid;
      offer = now_best live (place * 2 + 1) lot offer is_offer;
      lot = sym (ap (λ o. cond (is_place o place && not (lot == 0)) lot was) at
          ∙ ap (λ b. cond (b && not (lot == 0)) lot was) (eq-eqb place place refl)
          ∙ ap (λ b. cond (not b) lot was) some);
      trading = h.trading;
      operational = h.operational;
      automated = h.automated;
    })

pub fits_lot : (keys : List ℕ) (events : List OrderEvent) (symbol : List ℕ)
    (lot locate place : ℕ) (table : List (ℕ × Order)) (rows after : List SymbolRow)
    (oddities : Oddities) → FitsEvents (book_of keys table rows oddities) events
    → place_among keys symbol ≡ Some place → (lot == 0) ≡ false
    → IsLotShown table place lot rows after → length rows ≡ length keys
    → FitsEvents (book_of keys table after oddities)
    (events ++ event.RoundLot symbol lot locate ∷ [])
fits_lot keys events symbol lot locate place table rows after oddities fits at some shown len =
    let e = event.RoundLot symbol lot locate in
    let live = (session_orders_of keys events).live in
    fits_rows keys events e table rows after oddities fits refl (λ other d inside h.
    subst (λ (rs : List SymbolRow). RowAfter keys events e other (get_or rs other d))
    (sym (shown.rows d))
    (elim (cases_eq other place) [
      | inl same ↦ (
          let shows = showing (place * 2 + 1) shown.offer (showing (place * 2) shown.bid
          (with_lot lot (get_or rows place d))) in
          subst (λ n. RowAfter keys events e n (get_or (set rows place shows) n d)) (sym same)
          (subst (λ r. RowAfter keys events e place r)
          (sym (get_or-set_same rows place shows d (omega (arith, inside, len, same))))
          (row_lot keys events symbol lot locate place (get_or rows place d) shown.bid shown.offer
          (subst (λ n. FitsRow keys events n (get_or rows n d)) same h) at some
          (shown.is_bid live fits.orders) (shown.is_offer live fits.orders)))
          )
      | inr apart ↦ (
          let shows = showing (place * 2 + 1) shown.offer (showing (place * 2) shown.bid
          (with_lot lot (get_or rows place d))) in
          let row = get_or rows other d in
          let elsewhere : is_place (place_among keys symbol) other ≡ false =
          ap (λ o. is_place o other) at ∙ ne_eqb place other (λ q. apart (sym q)) in
          subst (λ r. RowAfter keys events e other r)
          (sym (get_or-set_other rows place other shows d apart)) (record {
            symbol = h.symbol;
            bid = h.bid;
            offer = h.offer;
            lot = h.lot ∙ sym (no_lot (place_among keys symbol) other lot (lot_of keys other events)
                elsewhere);
            trading = h.trading;
            operational = h.operational;
            automated = h.automated;
          })
          )
    ]))

-- ---- a halt

pub leaves_halt_none : (keys : List ℕ) (symbol : List ℕ) (kind : HaltKind) (now : Bool)
    (locate : ℕ) → place_among keys symbol ≡ None
    → LeavesSymbols keys (event.Halt symbol kind now locate)
leaves_halt_none keys symbol kind now locate none = record {
  lot = λ place lot. refl;
  halt = λ place other halted.
      ap (λ o. cond (is_place o place && is_same_kind kind other) now halted) none;
}

row_halt : (keys : List ℕ) (events : List OrderEvent) (symbol : List ℕ) (kind : HaltKind)
    (now : Bool) (locate place : ℕ) (row : SymbolRow) → FitsRow keys events place row
    → place_among keys symbol ≡ Some place
    → RowAfter keys events (event.Halt symbol kind now locate) place (with_halt kind now row)
row_halt keys events symbol Trading now locate place row h at = record {
  symbol = h.symbol;
  bid = h.bid;
  offer = h.offer;
  lot = h.lot;
  trading = sym (ap (λ o. cond (is_place o place && true) now
      (halt_of keys place Trading events)) at
      ∙ ap (λ b. cond (b && true) now (halt_of keys place Trading events))
      (eq-eqb place place refl));
  operational = h.operational ∙ sym (ap (λ b. cond b now (halt_of keys place Operational events))
      (and_false (is_place (place_among keys symbol) place)));
  automated = h.automated;
}
row_halt keys events symbol Operational now locate place row h at = record {
  symbol = h.symbol;
  bid = h.bid;
  offer = h.offer;
  lot = h.lot;
  trading = h.trading ∙ sym (ap (λ b. cond b now (halt_of keys place Trading events))
      (and_false (is_place (place_among keys symbol) place)));
  operational = sym (ap (λ o. cond (is_place o place && true) now
      (halt_of keys place Operational events)) at
      ∙ ap (λ b. cond (b && true) now (halt_of keys place Operational events))
      (eq-eqb place place refl));
  automated = h.automated;
}

pub fits_halt : (keys : List ℕ) (events : List OrderEvent) (symbol : List ℕ) (kind : HaltKind)
    (now : Bool) (locate place : ℕ) (table : List (ℕ × Order)) (rows after : List SymbolRow)
    (oddities : Oddities) → FitsEvents (book_of keys table rows oddities) events
    → place_among keys symbol ≡ Some place → IsHaltShown place kind now rows after
    → length rows ≡ length keys
    → FitsEvents (book_of keys table after oddities)
    (events ++ event.Halt symbol kind now locate ∷ [])
fits_halt keys events symbol kind now locate place table rows after oddities fits at shown len =
    let e = event.Halt symbol kind now locate in
    fits_rows keys events e table rows after oddities fits refl (λ other d inside h.
    subst (λ (rs : List SymbolRow). RowAfter keys events e other (get_or rs other d))
    (sym (shown d))
    (elim (cases_eq other place) [
      | inl same ↦ (
          let shows = with_halt kind now (get_or rows place d) in
          subst (λ n. RowAfter keys events e n (get_or (set rows place shows) n d)) (sym same)
          (subst (λ r. RowAfter keys events e place r)
          (sym (get_or-set_same rows place shows d (omega (arith, inside, len, same))))
          (row_halt keys events symbol kind now locate place (get_or rows place d)
          (subst (λ n. FitsRow keys events n (get_or rows n d)) same h) at))
          )
      | inr apart ↦ (
          let shows = with_halt kind now (get_or rows place d) in
          let row = get_or rows other d in
          let elsewhere : (k : HaltKind) (was : Bool)
          → cond (is_place (place_among keys symbol) other && is_same_kind kind k) now was ≡ was =
          λ k was. ap (λ b. cond (b && is_same_kind kind k) now was)
          (ap (λ o. is_place o other) at ∙ ne_eqb place other (λ q. apart (sym q))) in
          subst (λ r. RowAfter keys events e other r)
          (sym (get_or-set_other rows place other shows d apart)) (record {
            symbol = h.symbol;
            bid = h.bid;
            offer = h.offer;
            lot = h.lot;
            trading = h.trading ∙ sym (elsewhere Trading (halt_of keys other Trading events));
            operational = h.operational
                ∙ sym (elsewhere Operational (halt_of keys other Operational events));
            automated = h.automated;
          })
          )
    ]))

-- ---- no message

shows_none : (side lot : ℕ) → 1 ≤ lot → ShowsBest [] side lot 0 0
shows_none side lot some = record {
  best = None;
  is_best = λ rank. omega (arith, some);
  price_is = refl;
  size_is = refl;
}

distinct_none : IsDistinct nat_eq (keys_of {K = ℕ} {X = Order} [])
unfolding IsDistinct
distinct_none = tt

row_none : (keys : List ℕ) (symbol : List ℕ) (place : ℕ) → key_of symbol ≡ get_or keys place 0
    → FitsRow keys [] place (unknown_row symbol)
row_none keys symbol place at = record {
  symbol = at;
  bid = shows_none (place * 2) 100 (omega arith);
  offer = shows_none (place * 2 + 1) 100 (omega arith);
  lot = refl;
  trading = refl;
  operational = refl;
  automated = (refl, refl);
}

pub fits_none : (symbols : List (List ℕ))
    → FitsEvents (book_of (map key_of symbols) [] (map unknown_row symbols) no_oddities) []
fits_none symbols = record {
  orders = record { each = λ id. refl; sums = λ f. refl; distinct = distinct_none };
  oddities = refl;
  rows = λ place d inside. (
      let below : place < length symbols = omega (arith, inside, length-map symbols key_of) in
      let symbol = get_or symbols place d.quote.symbol in
      subst (λ r. FitsRow (map key_of symbols) [] place r)
      (sym (get_or-map unknown_row symbols place d.quote.symbol d below))
      (row_none (map key_of symbols) symbol place
      (sym (get_or-map key_of symbols place d.quote.symbol 0 below)))
      );
}

pub lots_none : (symbols : List (List ℕ)) (k : ℕ) (d : SymbolRow)
    → k < length (map unknown_row symbols) → 1 ≤ (get_or (map unknown_row symbols) k d).lot
lots_none symbols k d inside =
    let below : k < length symbols = omega (arith, inside, length-map symbols unknown_row) in
    subst (λ (r : SymbolRow). 1 ≤ r.lot)
    (sym (get_or-map unknown_row symbols k d.quote.symbol d below)) (omega arith)
