-- A command by its kind, where a setting allows some kinds.
use Rattle.std.proofs.Common.{◌≡◌, ◌∙◌, Bool, true, false, length, Option, Some}
use Rattle.zf_cached.specs.Kinds as sorts
use Rattle.zf_cached.{specs.Commands.{Command}, specs.Steps.{Setting, Session}}
use Rattle.zf_cached.specs.Replies.{Refusal, Reply}
use Rattle.zf_script.specs.declared.command.Cmd.{Cmd}
use Rattle.zf_commands.{specs.declared.kinds.Kind.{Kind}, specs.Kinds.{cmd_of_kind, asked}, specs.Steps.{Does, Takes}}
use Rattle.zf_commands.{proofs.Commanding.{taken, not_taken}, proofs.Sorting.{sort_of, by_kind}}

module _ {Code : Type 0} {cmd : Cmd} (setting : Setting Code) (s : Session Code) (k : Kind) (is : cmd ≡ cmd_of_kind k) (test : sorts.Kind → Bool) (allows : (c : Command) → setting.allows c ≡ test (sorts.kind_of c)) where
  pub allowed : {t : Session Code} {reply : Option Reply} → test (sort_of (length s.shape) k) ≡ true → Does setting (asked s (cmd_of_kind k)) s t reply → Takes setting s (asked s cmd) t reply
  allowed {t} {reply} holds does = taken setting cmd (cmd_of_kind k) is s t reply (allows (asked s (cmd_of_kind k)) ∙ by_kind s k test true holds) does

  pub not_allowed : test (sort_of (length s.shape) k) ≡ false → Takes setting s (asked s cmd) s (Some (Reply.refused Refusal.word))
  not_allowed fails = not_taken setting cmd (cmd_of_kind k) is s (allows (asked s (cmd_of_kind k)) ∙ by_kind s k test false fails)
