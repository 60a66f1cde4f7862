use Rattle.std.proofs.Common.{◌∙◌, ap, cond, false, List, ℕ, None}
use Rattle.kms_host.specs.KeyFiles.{named}
use Rattle.kms_host.specs.Memory.{both}
use Rattle.kms_host.proofs.AgreeLaws.{agrees_apart, apart_text, named_of, tells_text, tells_no_text}
use Rattle.kms_host.proofs.memory.calls.MemoryHostHost.text.Goals as goal

pub invariant_of-self : goal.invariant_of-self
invariant_of-self c =
    agrees_apart (both c.self.inside.opening) c.self.inside.key_files.items c.named-call.result false c.self.inside.log c.note.new.self _ c.self.inside.outputs.items c.self.inside.opened c.self.inside.file_0 c.self.inside.file_1
    c.named-call.ensures c.note.ensures (apart_text _ _ _) c.self.invariant

pub invariant_of-self-in-None : goal.invariant_of-self-in-None
invariant_of-self-in-None c =
    agrees_apart (both c.self.inside.opening) c.self.inside.key_files.items c.unnamed-call.result false c.self.inside.log c.note-in-None.new.self _ c.self.inside.outputs.items c.self.inside.opened c.self.inside.file_0 c.self.inside.file_1
    c.unnamed-call.ensures c.note-in-None.ensures (apart_text _ _ _) c.self.invariant

pub returns-in-Some-clause-told : goal.returns-in-Some-clause-told
returns-in-Some-clause-told c =
    rw (← c.self.view_is)
    (tells_text (both c.self.inside.opening) c.self.inside.key_files.items c.named-call.result c.self.inside.log c.note.new.self _ c.args.name.now c.in-Some.text.now _ c.fill_from-count.result
    c.named-call.ensures c.note.ensures (named_of c.refuses-refused.result _ _ (c.in-Some.ensures ∙ ap (λ (l : List (List ℕ × List ℕ)). cond c.refuses-refused.result None (named c.args.name.now l)) c.deref.ensures.value)) c.fill_from-count.ensures.first)

pub returns-in-None-clause-told : goal.returns-in-None-clause-told
returns-in-None-clause-told c =
    rw (← c.self.view_is) (tells_no_text (both c.self.inside.opening) c.self.inside.key_files.items c.unnamed-call.result c.self.inside.log c.note-in-None.new.self _ c.unnamed-call.ensures c.note-in-None.ensures)
