-- A run in which a subscriber takes out the notice of a quotation.
use Rattle.std.proofs.Common.{◌≡◌, ℕ, ◌<◌, ◌≤◌, true, List, [], ◌∷◌, length, Ok, refl, sym, arith, append-nil, inr}
use Rattle.std.specs.Borrow.{Bor}
use Rattle.feed_types.specs.declared.item.Item.TheVariants as item
use Rattle.feed_types.specs.declared.item.Numbered.{Numbered}
use Rattle.feed_types.specs.declared.item.Quote.{Quote}
use Rattle.feed_types.specs.declared.journal.Entry.{Entry}
use Rattle.feed_types.specs.declared.journal.Entry.TheVariants as entry
use Rattle.feed_types.specs.declared.journal.Notice.{Notice}
use Rattle.feed_types.specs.declared.line.LineId.TheVariants.{A}
use Rattle.filter_terms.specs.declared.terms.Terms.{All}
use Rattle.mold_packet.specs.declared.packet.Kind.TheVariants.{Messages}
use Rattle.mold_packet.specs.Content.{Content, Spells, spelling}
use Rattle.quote_payload.specs.Payload.{item_of}
use Rattle.line_arbiter.specs.declared.outcome.Outcome.TheVariants.{Taken}
use Rattle.line_arbiter.specs.Packets.{arrival_of}
use Rattle.line_arbiter.specs.Histories.{History, new_history, after_input}
use Rattle.feed_steps.specs.declared.event.Event.{Event}
use Rattle.feed_steps.specs.declared.event.Event.TheVariants.{Packet, Push, Consume, Subscribe, Offer, Dequeue}
use Rattle.feed_steps.specs.declared.event.Done.{Done}
use Rattle.feed_steps.specs.declared.event.Done.TheVariants as done
use Rattle.feed_core.specs.Worlds.{World, Setting, new_world}
use Rattle.feed_core.specs.Runs.{IsRun}
use Rattle.feed_core.specs.Steps.{AnswersPacket}
use Rattle.feed_core.specs.Dequeuing.{Dequeues, one_of_each, notice_of_xyz, xyz}

-- a quotation in version 1: the symbol, the bid's price and size, the offer's, and both flags
abbrev message : List ℕ
message =
    0x51 ∷ 88 ∷ 89 ∷ 90 ∷ 32 ∷ 32 ∷ 32 ∷ 32 ∷ 32 ∷ 0 ∷ 1 ∷ 134 ∷ 160 ∷ 0 ∷ 0 ∷ 1 ∷ 44
    ∷ 0 ∷ 1 ∷ 135 ∷ 4 ∷ 0 ∷ 0 ∷ 0 ∷ 200 ∷ 3 ∷ []

abbrev quote : Quote
quote = record {
  symbol = xyz;
  bid_price = 100000;
  bid_size = 300;
  offer_price = 100100;
  offer_size = 200;
  bid_auto = true;
  offer_auto = true;
}

abbrev first_item : Numbered
first_item = record { number = 1; item = item.Quote quote }

abbrev first_entry : Entry
first_entry = entry.Consumed 0 first_item

module _ (session : List ℕ) (ten : length session ≡ 10) where
  abbrev setting : Setting
  setting = one_of_each session xyz

  abbrev packet : Content
  packet = record {
    session = session;
    number = 1;
    kind = Messages;
    messages = message ∷ [];
    ignored = 0;
  }

  abbrev datagram : Bor (List ℕ)
  datagram = record { ref_ptr = (0, 0); now = spelling packet }

  spells : Spells (spelling packet) packet []
  spells = record {
    content = record {
      session = ten;
      from_one = omega arith;
      small = omega arith;
      in_range = omega arith;
      fits = (omega arith, omega arith);
      each = (let short : 26 < 65536 = omega arith in short, tt);
    };
    ignored = refl;
    spelled = sym (append-nil (spelling packet));
  }

  abbrev history : History
  history = after_input (new_history session) (arrival_of A packet (Ok (Taken 1 0)))

  abbrev world_with : History → List Numbered → List Numbered → List Entry → List Notice
      → List Notice → World
  world_with h sent received entries queued taken = record {
    venues = record {
      history = h;
      lane = record { sent = sent; received = received };
    } ∷ [];
    entries = entries;
    subscribers = record {
      terms = All;
      lane = record { sent = queued; received = taken };
    } ∷ [];
    used = 1;
  }

  abbrev events : List Event
  events = Subscribe ∷ Packet 0 A datagram ∷ Push 0 ∷ Consume 0 ∷ Offer 0 ∷ Dequeue 0 ∷ []

  abbrev outcomes : List Done
  outcomes =
      done.Subscribed 0 ∷ done.Packet (Taken 1 0) ∷ done.Pushed 1 ∷ done.Consumed 1
      ∷ done.Offered 1 ∷ done.Dequeued 1 ∷ []

  abbrev subscribed : World
  subscribed = world_with (new_history session) [] [] [] [] []

  abbrev arrived : World
  arrived = world_with history [] [] [] [] []

  abbrev pushed : World
  pushed = world_with history (first_item ∷ []) [] [] [] []

  abbrev consumed : World
  consumed = world_with history (first_item ∷ []) (first_item ∷ []) (first_entry ∷ []) [] []

  abbrev offered : World
  offered =
      world_with history (first_item ∷ []) (first_item ∷ []) (first_entry ∷ [])
      (notice_of_xyz ∷ []) []

  abbrev dequeued : World
  dequeued =
      world_with history (first_item ∷ []) (first_item ∷ []) (first_entry ∷ [])
      (notice_of_xyz ∷ []) (notice_of_xyz ∷ [])

  answers : AnswersPacket 1 0 (record {
    history = new_history session;
    lane = record { sent = []; received = [] };
  }) A (spelling packet) subscribed (done.Packet (Taken 1 0)) arrived
  answers = record {
    packet = packet;
    rest = [];
    spells = spells;
    answers = record {
      answer = Ok (Taken 1 0);
      history = history;
      adds = record {
        right = inr (
          refl,
          (
            λ at e. absurd cc,
            let near : 1 ≤ 1 = omega arith in near,
            λ k x within unsent is other. absurd cc,
            refl,
            refl,
          ),
        );
        is = refl;
      };
      outcome_is = refl;
      new_is = refl;
    };
  }

  run : IsRun setting (new_world setting) events outcomes dequeued
  unfolding item_of
  run = (
    subscribed,
    (refl, refl),
    (
      arrived,
      inr answers,
      (
        pushed,
        (refl, refl),
        (consumed, (refl, refl), (offered, (refl, refl), (dequeued, (refl, refl), refl))),
      ),
    ),
  )

  pub first_notice : Dequeues (one_of_each session xyz) 0 notice_of_xyz
  first_notice = record {
    events = events;
    outcomes = outcomes;
    world = dequeued;
    run = run;
    subscriber = record {
      terms = All;
      lane = record { sent = notice_of_xyz ∷ []; received = notice_of_xyz ∷ [] };
    };
    there = refl;
    dequeued = refl;
  }
