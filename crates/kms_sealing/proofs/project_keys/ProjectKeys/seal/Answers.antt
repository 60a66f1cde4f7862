use Rattle.std.proofs.Common.{◌<◌, ◌^◌, arith}
use Rattle.kms_aes.specs.Cipher.{IsBlock}
use Rattle.kms_record.specs.Fields.{IsToken}
use Rattle.kms_opened.specs.Opened.{OpensUnder}
use Rattle.kms_sealing.specs.Fit.{FitFirst}
use Rattle.kms_sealing.specs.Sealed.{Adds, rows_with, IsSealedFirst, IsSealedUnder}
use Rattle.kms_sealing.specs.declared.sealing.Sealed.{Sealed}
use Rattle.kms_sealing.proofs.SealLaws.{Fits, ok_with, has_none, first_adds, first_opens, first_length, under_opens, under_length}
use Rattle.kms_sealing.proofs.project_keys.ProjectKeys.seal.Goals as goal

pub returns-in-Some-clause-adds : goal.returns-in-Some-clause-adds
returns-in-Some-clause-adds c =
    let masters = c.args.self.now.masters in
    let kept = c.args.tables.now.kept in
    let project = c.args.project.now in
    let plain = c.args.payload.now in
    let iv = c.args.drawn.iv in
    let first = c.in-Some.first in
    let moment : c.args.moment < 2 ^ 64 = omega arith in
    ok_with (FitFirst masters first.key first.iv iv) (IsSealedFirst masters project c.args.moment plain first iv) (λ (s : Sealed). Adds masters kept project s.new) c.seal_first.result c.seal_first.ensures.fit
    (λ fit s is.
    let f : Fits c.args.moment plain iv = record { moment_fits = moment; plain_fits = λ i. omega (arith, c.type_inv.payload i); some = c.requires.some; few = c.requires.few; iv_fits = fit.iv_fits } in
    first_adds masters kept project c.args.moment plain iv f first fit.masters_fit fit.key_fits fit.key_iv_fits (has_none c.args.drawn.key first _ c.in-Some.is c.requires.drawn) s is)
    c.seal_first.ensures.sealed

pub returns-in-Some-clause-opens : goal.returns-in-Some-clause-opens
returns-in-Some-clause-opens c =
    let masters = c.args.self.now.masters in
    let kept = c.args.tables.now.kept in
    let project = c.args.project.now in
    let plain = c.args.payload.now in
    let iv = c.args.drawn.iv in
    let first = c.in-Some.first in
    let moment : c.args.moment < 2 ^ 64 = omega arith in
    ok_with (FitFirst masters first.key first.iv iv) (IsSealedFirst masters project c.args.moment plain first iv) (λ (s : Sealed). OpensUnder masters (rows_with s.new kept.keys) project s.number s.token plain) c.seal_first.result c.seal_first.ensures.fit
    (λ fit s is.
    let f : Fits c.args.moment plain iv = record { moment_fits = moment; plain_fits = λ i. omega (arith, c.type_inv.payload i); some = c.requires.some; few = c.requires.few; iv_fits = fit.iv_fits } in
    first_opens masters kept project c.args.moment plain iv f first fit.masters_fit fit.key_fits fit.key_iv_fits (has_none c.args.drawn.key first _ c.in-Some.is c.requires.drawn) s is)
    c.seal_first.ensures.sealed

pub returns-in-Some-clause-token : goal.returns-in-Some-clause-token
returns-in-Some-clause-token c =
    let masters = c.args.self.now.masters in
    let kept = c.args.tables.now.kept in
    let project = c.args.project.now in
    let plain = c.args.payload.now in
    let iv = c.args.drawn.iv in
    let first = c.in-Some.first in
    let moment : c.args.moment < 2 ^ 64 = omega arith in
    ok_with (FitFirst masters first.key first.iv iv) (IsSealedFirst masters project c.args.moment plain first iv) (λ (s : Sealed). IsToken s.token) c.seal_first.result c.seal_first.ensures.fit
    (λ fit s is.
    let f : Fits c.args.moment plain iv = record { moment_fits = moment; plain_fits = λ i. omega (arith, c.type_inv.payload i); some = c.requires.some; few = c.requires.few; iv_fits = fit.iv_fits } in
    first_length masters kept project c.args.moment plain iv f first fit.masters_fit fit.key_fits fit.key_iv_fits (has_none c.args.drawn.key first _ c.in-Some.is c.requires.drawn) s is)
    c.seal_first.ensures.sealed

pub returns-in-None-clause-opens : goal.returns-in-None-clause-opens
returns-in-None-clause-opens c =
    let masters = c.args.self.now.masters in
    let kept = c.args.tables.now.kept in
    let project = c.args.project.now in
    let plain = c.args.payload.now in
    let iv = c.args.drawn.iv in
    let moment : c.args.moment < 2 ^ 64 = omega arith in
    ok_with (IsBlock iv) (IsSealedUnder masters kept.keys project c.args.moment plain iv) (λ (s : Sealed). OpensUnder masters (rows_with s.new kept.keys) project s.number s.token plain) c.seal_under.result c.seal_under.ensures.fit
    (λ fit s is.
    let f : Fits c.args.moment plain iv = record { moment_fits = moment; plain_fits = λ i. omega (arith, c.type_inv.payload i); some = c.requires.some; few = c.requires.few; iv_fits = fit } in
    under_opens masters kept.keys project c.args.moment plain iv f s is)
    c.seal_under.ensures.sealed

pub returns-in-None-clause-token : goal.returns-in-None-clause-token
returns-in-None-clause-token c =
    let masters = c.args.self.now.masters in
    let kept = c.args.tables.now.kept in
    let project = c.args.project.now in
    let plain = c.args.payload.now in
    let iv = c.args.drawn.iv in
    let moment : c.args.moment < 2 ^ 64 = omega arith in
    ok_with (IsBlock iv) (IsSealedUnder masters kept.keys project c.args.moment plain iv) (λ (s : Sealed). IsToken s.token) c.seal_under.result c.seal_under.ensures.fit
    (λ fit s is.
    let f : Fits c.args.moment plain iv = record { moment_fits = moment; plain_fits = λ i. omega (arith, c.type_inv.payload i); some = c.requires.some; few = c.requires.few; iv_fits = fit } in
    under_length masters kept.keys project c.args.moment plain iv f s is)
    c.seal_under.ensures.sealed
