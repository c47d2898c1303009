use Rattle.std.proofs.Common.{◌≡◌, ◌∙◌, subst}
use Rattle.text_out.specs.Devices.{Writing}
use Rattle.text_out.specs.Members.{writing_of}
use Rattle.run_watches.specs.RunLines.{watched}
use Rattle.run_watches.specs.RunNews.{IsNewsOfLine, SaysNews}
use Rattle.run_watches.specs.RunNewsLaws.{more_news}
use Rattle.run_watches.proofs.line_watch.LineWatch.write_news.Goals as goal

pub write_both-requires-clause-first : goal.write_both-requires-clause-first
write_both-requires-clause-first g c = c.new_unsent.ensures.told c.args.tells_more

pub write_both-requires-2-clause-first : goal.write_both-requires-2-clause-first
write_both-requires-2-clause-first g c = c.new_passed.ensures.told c.args.tells_more

pub write_both-requires-2-clause-last : goal.write_both-requires-2-clause-last
write_both-requires-2-clause-last g c = c.new_foreign.ensures.told c.args.tells_more

pub write_end-requires : goal.write_end-requires
write_end-requires g c = c.new_end-end.ensures.told c.args.tells_more

pub returns-clause-news : goal.returns-clause-news
returns-clause-news g c =
    let w : Writing g.row.E.Denot = writing_of g.E.TextOut in
    let more = c.args.tells_more in
    let now = c.new_silence-silence.new.self in
    let same : watched now ≡ watched c.args.self.now =
    c.new_silence-silence.ensures.line ∙ c.new_withheld.ensures.line
    ∙ c.new_stranger.ensures.line ∙ c.new_foreign.ensures.line ∙ c.new_passed.ensures.line
    ∙ c.new_held_back.ensures.line ∙ c.new_unsent.ensures.line ∙ c.new_end-end.ensures.line in
    let first = c.args.errors.now in
    let last = c.write_end.new.errors in
    let P = IsNewsOfLine more (watched now) in
    subst (λ line. SaysNews w c.args.names.now (IsNewsOfLine more line) first last) same
    (more_news w c.args.names.now P first c.write_both.new.errors last c.write_both.ensures
    (more_news w c.args.names.now P c.write_both.new.errors c.write_both-2.new.errors last
    c.write_both-2.ensures
    (more_news w c.args.names.now P c.write_both-2.new.errors c.write_both-3.new.errors last
    c.write_both-3.ensures
    (more_news w c.args.names.now P c.write_both-3.new.errors c.write_change.new.errors last
    c.write_change.ensures c.write_end.ensures))))
