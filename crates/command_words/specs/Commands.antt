-- The commands of the program with their options, as the crate clap sees them.
use Rattle.std.specs.Prelude.{ℕ, List, ◌∷◌, [], codes, true}
use Rattle.clap.specs.Simple.{App, new_app, on_top, with_subcommand}
use Rattle.command_words.specs.OptionForms.{with_option_rules}
use Rattle.command_words.specs.declared.option_table.OptionForm.{OptionForm}
use Rattle.command_words.specs.declared.option_table.OptionForm.TheVariants.{Buffer, Flag, FromOne, FromZero, Required, Several, Text, Window, Words}

abbrev pub replay_app : App
replay_app = with_option_rules (new_app (codes "replay"))
    ((codes "sessions", Required) ∷ (codes "lines", Text)
    ∷ (codes "window", Window) ∷ (codes "journal", FromZero)
    ∷ (codes "join", Flag) ∷ (codes "skip-gaps", Flag) ∷ (codes "skip-after", FromOne)
    ∷ (codes "gaps", Flag) ∷ (codes "best-only", Flag)
    ∷ (codes "from", Text) ∷ (codes "to", Text)
    ∷ (codes "format", Text) ∷ (codes "times", Text) ∷ (codes "venues", Text)
    ∷ (codes "input", Text) ∷ (codes "output", Text) ∷ (codes "symbols", Words) ∷ [])

-- listen with the options for what it receives
abbrev pub receiving_app : App
receiving_app = with_option_rules (new_app (codes "listen"))
    ((codes "sessions", Required) ∷ (codes "lines", Required)
    ∷ (codes "itch", Text) ∷ (codes "orders", FromOne) ∷ (codes "end-number", Text)
    ∷ (codes "request", Text) ∷ (codes "request-after", FromZero)
    ∷ (codes "senders", Text) ∷ (codes "from", Text)
    ∷ (codes "most-ahead", FromOne) ∷ (codes "join", Flag) ∷ (codes "skip-after", FromOne)
    ∷ (codes "window", Window) ∷ (codes "journal", FromZero)
    ∷ (codes "datagrams", FromZero) ∷ (codes "buffer", Buffer) ∷ [])

-- the other options of listen, with their forms
abbrev pub listening_forms : List (List ℕ × OptionForm)
listening_forms =
    ((codes "end", Text) ∷ (codes "complete", Flag)
    ∷ (codes "seconds", FromOne) ∷ (codes "until-input-ends", Flag)
    ∷ (codes "silent-after", FromOne) ∷ (codes "record", Text)
    ∷ (codes "follow", Flag) ∷ (codes "kept", FromOne)
    ∷ (codes "format", Text) ∷ (codes "times", Text) ∷ (codes "venues", Text)
    ∷ (codes "stats", FromOne) ∷ (codes "stats-format", Text)
    ∷ (codes "metrics", Text) ∷ (codes "symbols", Words) ∷ [])

abbrev pub listen_app : App
listen_app = with_option_rules receiving_app listening_forms

abbrev pub convert_app : App
convert_app = with_option_rules (new_app (codes "convert"))
    ((codes "lines", Required) ∷ (codes "input", Text) ∷ (codes "output", Text) ∷ [])

abbrev pub stats_app : App
stats_app = with_option_rules (new_app (codes "stats"))
    ((codes "sessions", Required) ∷ (codes "lines", Text)
    ∷ (codes "window", Window) ∷ (codes "join", Flag) ∷ (codes "skip-gaps", Flag)
    ∷ (codes "skip-after", FromOne) ∷ (codes "gaps", Flag) ∷ (codes "types", Flag)
    ∷ (codes "every", Text) ∷ (codes "bests", Flag)
    ∷ (codes "from", Text) ∷ (codes "to", Text)
    ∷ (codes "format", Text) ∷ (codes "times", Text) ∷ (codes "venues", Text)
    ∷ (codes "input", Text) ∷ (codes "output", Text) ∷ (codes "symbols", Words) ∷ [])

abbrev pub normalise_app : App
normalise_app = with_option_rules (new_app (codes "normalise"))
    ((codes "sessions", Required) ∷ (codes "lines", Text)
    ∷ (codes "window", Window) ∷ (codes "orders", FromOne) ∷ (codes "end-number", Text)
    ∷ (codes "skip-gaps", Flag) ∷ (codes "skip-after", FromOne) ∷ (codes "snapshot", Several)
    ∷ (codes "input", Text) ∷ (codes "output", Text) ∷ (codes "symbols", Words) ∷ [])

abbrev pub discovering_app : App
discovering_app =
    with_option_rules (new_app (codes "lines"))
    ((codes "format", Text) ∷ (codes "times", Text)
    ∷ (codes "input", Text) ∷ (codes "output", Text) ∷ [])

-- the program with its texts
abbrev pub titled_app : App
titled_app = on_top (λ top. record top { has_version = true }) (new_app (codes "nbbo"))

-- the program without its subcommands, which then does nothing
abbrev pub program_app : App
program_app =
    on_top (λ top. record top { subcommand_required = true; arg_required_else_help = true })
    titled_app

abbrev pub replaying_app : App
replaying_app = with_subcommand program_app replay_app.top

abbrev pub listening_app : App
listening_app = with_subcommand replaying_app listen_app.top

abbrev pub converting_app : App
converting_app = with_subcommand listening_app convert_app.top

abbrev pub reporting_app : App
reporting_app = with_subcommand converting_app stats_app.top

abbrev pub normalising_app : App
normalising_app = with_subcommand reporting_app normalise_app.top

abbrev pub nbbo_app : App
nbbo_app = with_subcommand normalising_app discovering_app.top
